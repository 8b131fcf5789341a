-- Which keys of IP fragments a reading of a capture remembers, by its frames. RFC 791 "Internet Protocol", 2.3 "Function Description".
-- own: a key is forgotten once pieces of 64 other keys of the same hosts stand behind its last piece (`specs/Recent.antt`).
use Rattle.std.specs.Prelude.{ℕ, ◌≡◌, ◌≤◌, if◌then◌else◌, List, [], ◌∷◌, length, Ok}
use Rattle.std.specs.List.{list_any}
use Rattle.std.specs.Ordering.{is_eq}
use Rattle.rtps_capture.specs.Capture as capture
use Rattle.rtps_capture.specs.Recent as recent
use Rattle.rtps_capture.specs.Sent as sent
use Rattle.rtps_capture.specs.declared.captures.Captures.{Captures}
use Rattle.rtps_capture.specs.declared.frames.Frame.{Frame}
use Rattle.rtps_capture.specs.declared.fragment.FragmentHosts.{FragmentHosts}
use Rattle.rtps_capture.specs.declared.fragment.FragmentKey.{FragmentKey}
use Rattle.rtps_capture.specs.declared.layout.packet.TheConstants as packet
use Rattle.rtps_capture.specs.declared.packet.Contents.{Contents}

-- what came of these hosts, with the contents of a frame more: the identification of each piece, the last one first
abbrev pub came_with : FragmentHosts → List ℕ → Contents → List ℕ
came_with hosts came (Contents.Fragment fragment) = if is_eq (recent.hosts_cmp (recent.hosts_of fragment.key) hosts) then fragment.key.identification ∷ came else came
came_with hosts came _ = came

-- what came of these hosts, with these contents behind it
abbrev pub came_behind : FragmentHosts → List ℕ → List Contents → List ℕ
came_behind hosts came [] = came
came_behind hosts came (contents ∷ more) = came_behind hosts (came_with hosts came contents) more

-- A key is remembered where it came and fewer than 64 others of its hosts came behind its last piece; no more than 64 are of two hosts.
pub record KeysAreForgotten : Type 0 where
  pub remembered : (captures : Captures) (most : ℕ) (file : List ℕ) (frames : List Frame) (so_far : capture.Collected) → capture.all_noted captures file most capture.nothing frames ≡ Ok so_far → (key : FragmentKey)
      → list_any (recent.is_of key.identification) (so_far.recent (recent.hosts_of key)) ≡ recent.is_remembered key.identification (came_behind (recent.hosts_of key) [] (sent.contents_among captures file frames))
  pub few : (captures : Captures) (most : ℕ) (file : List ℕ) (frames : List Frame) (so_far : capture.Collected) → capture.all_noted captures file most capture.nothing frames ≡ Ok so_far → (hosts : FragmentHosts)
      → length (so_far.recent hosts) ≤ packet.MOST_KEPT
