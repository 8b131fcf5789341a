-- What the tests of patterns, policies and reasons say, which domain a port tells, and what is listed as unmatched. own: what a reader of the definitions would ask
-- of them.
use Rattle.std.specs.Prelude.{ℕ, ◌≡◌, ◌↔◌, List, [], Contains, Some, map, true}
use Rattle.std.specs.List.Sorted.{IsStrictlySortedBy}
use Rattle.rtps_receiver.specs.Values as values
use Rattle.rtps_discovery.specs.Directory as directory_spec
use Rattle.rtps_discovery.specs.Listings as listings
use Rattle.rtps_policies.specs.Domains as domains
use Rattle.rtps_policies.specs.Fitting as fitting
use Rattle.rtps_policies.specs.NamePatterns as name_patterns
use Rattle.rtps_policies.specs.Unmatched as unmatched
use Rattle.rtps_policies.specs.declared.fitting.Policy.{Policy}

-- the test of a pattern says what the relation says
abbrev pub PatternsFitAsTested : Type 0
PatternsFitAsTested = (pattern name : List ℕ) → (name_patterns.fits pattern name ≡ true) ↔ name_patterns.Fits pattern name

-- the test of two names says what the relation says
abbrev pub NamesFitAsTested : Type 0
NamesFitAsTested = (one other : List ℕ) → (name_patterns.names_fit one other ≡ true) ↔ name_patterns.NamesFit one other

-- the test of a policy says what the table says
abbrev pub SuitsAsTested : Type 0
SuitsAsTested = (policy : Policy) (writer reader : fitting.ProfileValue) → (fitting.suits policy writer reader ≡ true) ↔ fitting.Suits policy writer reader

-- a policy is a reason exactly where it does not suit
abbrev pub ReasonsDoNotSuit : Type 0
ReasonsDoNotSuit = (policy : Policy) (writer reader : fitting.ProfileValue) → Contains (fitting.reasons writer reader) policy ↔ (¬ fitting.Suits policy writer reader)

-- there is no reason exactly where all policies suit
abbrev pub FitsWhereNoReason : Type 0
FitsWhereNoReason = (writer reader : fitting.ProfileValue) → (fitting.reasons writer reader ≡ []) ↔ ((policy : Policy) → fitting.Suits policy writer reader)

-- of the settled endpoints of a recording those pairs are listed that do not match, with their reasons
abbrev pub UnmatchedAreListed : Type 0
UnmatchedAreListed =
    (acts : List values.ActValue) (directory : directory_spec.DirectoryValue) (one : unmatched.UnmatchedValue) → directory_spec.IsMapOf acts directory → Contains (unmatched.unmatched_among acts (directory_spec.settled_in directory.endpoints)) one ↔ unmatched.IsUnmatched acts one

-- they are sorted by writer and then by reader, and none is listed twice
abbrev pub UnmatchedAreInOrder : Type 0
UnmatchedAreInOrder =
    (acts : List values.ActValue) (directory : directory_spec.DirectoryValue) → directory_spec.IsMapOf acts directory → IsStrictlySortedBy listings.pair_cmp (map unmatched.pair_of (unmatched.unmatched_among acts (directory_spec.settled_in directory.endpoints)))

-- the ports of a domain are found to begin with a port exactly where they do
abbrev pub FirstPortTellsDomain : Type 0
FirstPortTellsDomain = (domain port : ℕ) → (domains.domain_from port ≡ Some domain) ↔ domains.IsFirstPortOf domain port

-- a port is found to be among those of a domain exactly where it is
abbrev pub PortTellsDomain : Type 0
PortTellsDomain = (domain port : ℕ) → (domains.domain_with port ≡ Some domain) ↔ domains.IsPortOf domain port
