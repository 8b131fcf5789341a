-- Which keys of IP fragments are remembered. RFC 791 "Internet Protocol", 2.3 "Function Description": the identification tells the
-- fragments of one packet from those of another of the same source, destination and protocol.
-- own: identifications come again, and what was lost is not waited for as long as a recording lasts. A key is forgotten once pieces of 64
-- other keys of the same hosts stand behind its last piece, as Linux does it (`ipfrag_max_dist`). What it had in the making then counts
-- as if the file ended there, and a piece that comes later begins anew. So of two hosts 64 packets are kept, however long a file is.
use Rattle.std.specs.Prelude.{ℕ, ◌≡◌, ◌==◌, ◌&&◌, nat_lt, Bool, if◌then◌else◌, List, [], ◌∷◌, length, take, Option, Some, None}
use Rattle.std.specs.List.{list_any}
use Rattle.std.specs.Ordering.{nat_cmp, ordering_then, is_eq}
use Rattle.std.specs.declared.cmp.Ordering.{Ordering}
use Rattle.std.specs.BTreeMap.{BTreeMap, get}
use Rattle.rtps_capture.specs.Assembly as assembly
use Rattle.rtps_capture.specs.declared.assembly.KeyedMaking.{KeyedMaking}
use Rattle.rtps_capture.specs.declared.assembly.Making.{Making}
use Rattle.rtps_capture.specs.declared.assembly.RecentMakings.{RecentMakings}
use Rattle.rtps_capture.specs.declared.assembly.Taken.{Taken}
use Rattle.rtps_capture.specs.declared.fragment.FragmentHosts.{FragmentHosts}
use Rattle.rtps_capture.specs.declared.fragment.FragmentKey.{FragmentKey}
use Rattle.rtps_capture.specs.declared.layout.packet.TheConstants as packet

-- the hosts of a key, and the version of IP between them
abbrev pub hosts_of : FragmentKey → FragmentHosts
hosts_of key = record { version = key.version; source = key.source; destination = key.destination }

-- how some hosts stand to others
abbrev pub hosts_cmp : FragmentHosts → FragmentHosts → Ordering
hosts_cmp a b = ordering_then (nat_cmp a.version b.version) (ordering_then (nat_cmp a.source b.source) (nat_cmp a.destination b.destination))

-- a list without the first of its elements that passes a test
abbrev pub without : {X : Type 0} → (X → Bool) → List X → List X
without test [] = []
without test (one ∷ others) = if test one then others else one ∷ without test others

-- it is of the key with this identification
abbrev pub is_of : ℕ → KeyedMaking → Bool
is_of identification one = one.identification == identification

-- the fragments of the key with this identification
abbrev pub making_in : List KeyedMaking → ℕ → Making
making_in [] identification = assembly.fresh_making
making_in (one ∷ others) identification = if is_of identification one then one.making else making_in others identification

-- The keys of two hosts that are remembered, once a piece of this one left these fragments of it. They stand by their last pieces: the
-- key whose piece came last is the first one.
abbrev pub recent_with : ℕ → Making → List KeyedMaking → List KeyedMaking
recent_with identification making recent = take packet.MOST_KEPT (record { identification = identification; making = making } ∷ without (is_of identification) recent)

-- what the map has of two hosts
abbrev pub recent_in : Option RecentMakings → List KeyedMaking
recent_in None = []
recent_in (Some recent) = recent.makings.items

-- what the map has of these hosts
abbrev pub recent_of : BTreeMap FragmentHosts RecentMakings → FragmentHosts → List KeyedMaking
recent_of recents hosts = recent_in (get hosts_cmp recents hosts)

-- a piece of this key was taken: what it gave, and what its hosts have now
abbrev pub TakesPiece : assembly.Joined → FragmentKey → Taken → List KeyedMaking → List KeyedMaking → List ℕ → Type 0
TakesPiece joined key taken old new packet = (taken ≡ joined.taken) × (packet ≡ joined.packet) × (new ≡ recent_with key.identification joined.making old)

-- A fragment of this key was taken: what it gave, and what its hosts have now. Other hosts have what they had.
abbrev pub TakesFragment : assembly.Joined → FragmentKey → Taken → BTreeMap FragmentHosts RecentMakings → BTreeMap FragmentHosts RecentMakings → List ℕ → Type 0
TakesFragment joined key taken old new packet =
    (taken ≡ joined.taken) × (packet ≡ joined.packet)
    × ((hosts : FragmentHosts) → recent_of new hosts
    ≡ (if is_eq (hosts_cmp (hosts_of key) hosts) then recent_with key.identification joined.making (recent_of old (hosts_of key)) else recent_of old hosts))

-- one of the numbers is this one
abbrev pub is_among : ℕ → List ℕ → Bool
is_among number numbers = list_any (λ other. other == number) numbers

-- these numbers, each once
abbrev pub each_once : List ℕ → List ℕ
each_once [] = []
each_once (number ∷ numbers) = number ∷ without (λ other. other == number) (each_once numbers)

-- what came behind the last of these numbers that is this one; the last one that came is the first here
abbrev pub behind_last : ℕ → List ℕ → List ℕ
behind_last number [] = []
behind_last number (other ∷ numbers) = if other == number then [] else other ∷ behind_last number numbers

-- A key is remembered by what came of its hosts, the identification of each piece, the last one first: it came, and pieces of fewer than 64
-- other keys stand behind its last piece.
abbrev pub is_remembered : ℕ → List ℕ → Bool
is_remembered identification came = is_among identification came && nat_lt (length (each_once (behind_last identification came))) packet.MOST_KEPT
