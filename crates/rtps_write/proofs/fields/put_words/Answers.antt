use Rattle.std.proofs.Common.{◌≡◌, ◌<◌, ◌+◌, ◌/◌, ◌++◌, ◌∷◌, [], ℕ, List, length, take, get_or, ap, ◌∙◌, sym, arith}
use Rattle.std.specs.List.{flat_map}
use Rattle.std.proofs.lemmas.Bool.Decides.{nat_tests}
use Rattle.std.proofs.lemmas.List.{flat_map_more, take_more}
use Rattle.rtps_ids.specs.Octets as octets
use Rattle.rtps_ids.specs.declared.order.Order.{Order}
use Rattle.rtps_write.proofs.WrittenGrowth.{grown, lacks, on_err}
use Rattle.rtps_write.proofs.WrittenSets.{words_within}
use Rattle.rtps_write.proofs.fields.put_words.Goals as goal

-- one word more is written
word_more : (order : Order) (before items after words : List ℕ) (i word : ℕ) → i < length words → word ≡ get_or words i 0
    → items ≡ before ++ flat_map (octets.octets_of order 4) (take i words) → after ≡ items ++ octets.octets_of order 4 word
    → after ≡ before ++ flat_map (octets.octets_of order 4) (take (i + 1) words)
word_more order before items after words i word inside is so_far written =
    written ∙ (ap (λ xs. xs ++ octets.octets_of order 4 word) so_far
    ∙ (flat_map_more (octets.octets_of order 4) before (take i words) word
    ∙ ap (λ xs. before ++ flat_map (octets.octets_of order 4) xs) (ap (λ w. take i words ++ w ∷ []) is ∙ sym (take_more words i 0 inside))))

pub returns-in_err-put_u32-clause-full : goal.returns-in_err-put_u32-clause-full
returns-in_err-put_u32-clause-full c =
    let eight = c.count.ensures.kept.eight in
    let few = c.count.ensures.kept.few in
    let same = c.count.ensures.count in
    let end : c.div_ceil-i-end.result ≡ (c.args.set.now.count + 31) / 32 = grind (arith, nat_tests) in
    let size = grown c.args.out.now.items _ c.loop-i.out.items c.args.out.now.len c.loop-i.out.len c.args.out.now.ok.0 c.loop-i.out.ok.0 c.loop-i.invariant.items in
    let within = words_within c.args.order c.args.set.now.words c.loop-i.i ((c.args.set.now.count + 31) / 32) (omega arith) (omega arith) in
    on_err c.from_residual.result (lacks _ _ c.args.out.now.len c.loop-i.out.len 4 _ c.loop-i.invariant.room c.in_err-put_u32.ensures.full (omega arith))

pub loop-i-preserved : goal.loop-i-preserved
loop-i-preserved c =
    let eight = c.count.ensures.kept.eight in
    let few = c.count.ensures.kept.few in
    let same = c.count.ensures.count in
    let end : c.div_ceil-i-end.result ≡ (c.args.set.now.count + 31) / 32 = grind (arith, nat_tests) in
    record {
      items = word_more _ _ _ _ c.args.set.now.words c.loop-i.i c.word.result (omega arith) c.word.ensures c.loop-i.invariant.items c.in_ok-put_u32.ensures.ok;
      room = let a = c.loop-i.invariant.room in let b = c.put_u32.ensures.room in omega arith;
    }
