use Rattle.std.proofs.Common.{◌≡◌, ◌∙◌, ap, sym}
use Rattle.std.specs.Prelude.{None}
use Rattle.std.specs.BTreeMap.{get}
use Rattle.std.specs.Option.{option_copied_mut}
use Rattle.rtps_capture.specs.Pieces as pieces
use Rattle.rtps_capture.specs.Recent as recent
use Rattle.rtps_capture.proofs.RecentLemmas.{put_taken, there_taken}
use Rattle.rtps_capture.proofs.assembly.Assembly.take.Goals as goal

pub returns-clause-taken : goal.returns-clause-taken
returns-clause-taken c =
    let old = c.args.self.now.recents in
    let none : get recent.hosts_cmp old c.hosts-hosts.result ≡ None = sym c.get_mut.ensures.value ∙ ap option_copied_mut c.in_default.is in
    put_taken c.args.file.now c.take-2.new.packet.items old c.get_mut.follows.lender-at-none c.insert.new.self c.args.fragment.now.key c.hosts-hosts.result c.new-recent.result c.take-2.new.self
    c.piece_of-piece.result (pieces.piece_of c.args.fragment.now) c.in_ok-taken.taken c.new-recent.ensures c.piece_of-piece.ensures c.hosts-hosts.ensures none c.get_mut.follows.holds-at-none
    c.in_ok-insert.ensures.updates c.in_ok-taken.ensures.taken

pub returns-in-Some-clause-taken : goal.returns-in-Some-clause-taken
returns-in-Some-clause-taken c =
    let there = sym c.get_mut.ensures.value ∙ ap option_copied_mut c.in-Some.is in
    there_taken c.args.file.now c.take.new.packet.items c.args.self.now.recents (c.get_mut.follows.lender c.take.new.self) c.args.fragment.now.key c.hosts-hosts.result
    c.in-Some.recent.now c.take.new.self c.piece_of-piece.result (pieces.piece_of c.args.fragment.now) c.take.result c.piece_of-piece.ensures c.hosts-hosts.ensures there
    (c.get_mut.follows.holds c.take.new.self).3 c.take.ensures.taken
