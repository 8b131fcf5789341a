use Rattle.std.proofs.Common.{ap, arith, get_or, subst, sym}
use Rattle.std.proofs.lemmas.List.{get_or_default, take_all}
use Rattle.rtps_wire.specs.Values as values
use Rattle.rtps_audit.specs.PayloadConflict as payload_conflict
use Rattle.rtps_audit.specs.declared.payload_conflict.AddressedPayload.{AddressedPayload}
use Rattle.rtps_audit.proofs.PayloadRuns.{ArePassed, first_of_run, kept_all, no_entry, none_passed, passed_differs, passed_same, run_at}
use Rattle.rtps_audit.proofs.payload_conflict.PayloadConflicts.among.Goals as goal

pub runs-init : goal.runs-init
runs-init c = none_passed c.args.entries.now _ c.new-payloads.ensures.items

pub runs-preserved-in_ok-extend_from_slice : goal.runs-preserved-in_ok-extend_from_slice
runs-preserved-in_ok-extend_from_slice c =
    let xs = c.args.entries.now in
    let start = c.runs.start in
    let end = c.run_end-end.result in
    let found = c.run_end-end.ensures in
    let run = run_at xs start end no_entry c.requires.sorted c.runs-test.true found.onward found.within found.run found.end in
    let other = c.has_other.ensures.other c.if-has_other.true in
    subst (ArePassed xs end) (sym c.in_ok-extend_from_slice.ensures.items) (passed_differs xs start end _ other.0 c.runs.payloads.items run other.1 other.2 c.runs.invariant)

pub runs-preserved : goal.runs-preserved
runs-preserved c =
    let xs = c.args.entries.now in
    let start = c.runs.start in
    let end = c.run_end-end.result in
    let found = c.run_end-end.ensures in
    let run = run_at xs start end no_entry c.requires.sorted c.runs-test.true found.onward found.within found.run found.end in
    passed_same xs start end _ c.runs.payloads.items run (c.has_other.ensures.same c.if-has_other.false) c.runs.invariant

pub invariant_of-result : goal.invariant_of-result
invariant_of-result c =
    record {
      sorted = c.runs.invariant.sorted;
      in_range = kept_all payload_conflict.IsInRange c.args.entries.now c.runs.payloads.items c.requires.in_range
          (subst (λ l. payload_conflict.AreConflictsAmong l c.runs.payloads.items) (take_all c.runs.start c.args.entries.now (omega (arith, c.runs-test.false))) c.runs.invariant.conflicts);
    }

pub returns : goal.returns
returns c = subst (λ l. payload_conflict.AreConflictsAmong l c.runs.payloads.items) (take_all c.runs.start c.args.entries.now (omega (arith, c.runs-test.false))) c.runs.invariant.conflicts

pub has_other-requires : goal.has_other-requires
has_other-requires c =
    let xs = c.args.entries.now in
    let start = c.runs.start in
    let first = get_or xs start no_entry in
    record {
      first = λ k d lt. ap (λ (e : AddressedPayload). values.payload_value e.payload.now)
          (first_of_run xs start c.run_end-end.result k first d (get_or_default xs start no_entry first c.runs-test.true) c.runs-test.true c.run_end-end.ensures.onward lt);
    }
