use Rattle.std.proofs.Common.{◌≡◌, ◌∙◌, ◌-◌, ◌++◌, ◌∷◌, [], ℕ, List, ap, arith, drop, length, map, subst, sym, take}
use Rattle.std.proofs.Math.Seq.{take-length}
use Rattle.std.proofs.lemmas.List.{length-drop}
use Rattle.rtps_audit.specs.Placed as placed
use Rattle.rtps_audit.specs.declared.placed.Placed.{Placed}
use Rattle.rtps_receiver.specs.Values as values
use Rattle.rtps_fragments.specs.ReadDatagrams as read_datagrams
use Rattle.rtps_fragments.proofs.AnnouncementLemmas.{announcements_at, found_behind, indexed_more}
use Rattle.rtps_fragments.proofs.announcements.Indexed.note.Goals as goal

pub returns-clause-heard : goal.returns-clause-heard
returns-clause-heard g c = λ start before was.
    let noted = c.args.noted.now in
    let old = c.args.self.now.announcements.items in
    let new = c.push_announcements.new.found.items in
    let found = announcements_at noted.datagram (map values.spoken_value noted.announcing.now) in
    let first : c.len-first.result ≡ length old = omega (arith, c.len-first.ensures, c.args.self.now.announcements.ok.0) in
    let items = c.deref.result.now in
    let n = c.len-first.result in
    let left : take (length items - n) (drop n items) ≡ drop n items = ap (λ (m : ℕ). take m (drop n items)) (sym (length-drop n items)) ∙ take-length (drop n items) in
    let announced : map placed.placed_value (take (length items - n) (drop n items)) ≡ found =
    ap (map placed.placed_value) left ∙ ap (λ (those : List Placed). map placed.placed_value (drop n those)) c.deref.ensures.value ∙ ap (λ (first : ℕ). map placed.placed_value (drop first new)) first
    ∙ found_behind old new found c.in_ok-push_announcements.ensures in
    subst
    (λ (those : List placed.PlacedValue).
    let read : read_datagrams.ReadDatagramValue = record { datagram = noted.datagram; acts = map values.spoken_value noted.own.now; announcements = those } in
    g.L.Listen.has_heard start (before ++ read ∷ []) c.hear.new.self)
    announced (c.in_ok-hear.ensures start before was)

pub returns-clause-index : goal.returns-clause-index
returns-clause-index g c = λ intake number was.
    let noted = c.args.noted.now in
    indexed_more intake c.args.tally (map values.spoken_value noted.acts.now) (map values.spoken_value noted.announcing.now) _ _ noted.datagram number was (c.in_ok-note.ensures intake was.index) c.in_ok-push_announcements.ensures
