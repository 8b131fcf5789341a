use Rattle.std.proofs.Common.{◌<◌, ◌∷◌, ◌∙◌, [], Some, None, ap, append-nil, arith, length, map, sym}
use Rattle.std.specs.Option.{option_map}
use Rattle.std.proofs.lemmas.List.{map-append}
use Rattle.rtps_policies.specs.Fitting as fitting
use Rattle.rtps_policies.specs.Unmatched as unmatched
use Rattle.rtps_policies.proofs.UnmatchedLemmas.{reader_more}
use Rattle.rtps_policies.proofs.unmatched.push_unmatched.Goals as goal
use Rattle.rtps_policies.proofs.unmatched.push_unmatched.Goals.{in-Some+in_ok-push-in-Some, in-None}

pub loop-reader-preserved : goal.loop-reader-preserved
loop-reader-preserved c =
    let lt : c.loop-reader.reader-index < length c.args.readers.now = omega arith in
    elim c.match-branch-2.branch [
      | in-Some+in_ok-push-in-Some w ↦
          rw w.found-is (reader_more (fitting.profile_value c.args.writer.now) c.args.readers.now c.loop-reader.reader-index _ (map unmatched.unmatched_value c.args.found.now.items) (map unmatched.unmatched_value c.loop-reader.found.items)
          (map unmatched.unmatched_value w.push.new.self.items) (Some (unmatched.unmatched_value w.in-Some.one)) lt c.loop-reader.invariant (sym (ap (option_map unmatched.unmatched_value) w.in-Some.is) ∙ c.in_ok-one.ensures)
          (ap (map unmatched.unmatched_value) w.in_ok-push-in-Some.ensures.items ∙ map-append unmatched.unmatched_value c.loop-reader.found.items (w.in-Some.one ∷ [])))
      | in-None w ↦
          rw w.found-is (reader_more (fitting.profile_value c.args.writer.now) c.args.readers.now c.loop-reader.reader-index _ (map unmatched.unmatched_value c.args.found.now.items) (map unmatched.unmatched_value c.loop-reader.found.items)
          (map unmatched.unmatched_value c.loop-reader.found.items) None lt c.loop-reader.invariant (sym (ap (option_map unmatched.unmatched_value) w.in-None.is) ∙ c.in_ok-one.ensures) (sym (append-nil _)))
    ]
