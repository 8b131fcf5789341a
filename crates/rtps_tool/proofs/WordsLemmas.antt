-- Facts on what `clap` found.
use Rattle.std.proofs.Common.{◌≡◌, ◌∙◌, ◌⊎◌, ap, sym, codes, false, true, inl, inr, List, Option, None, Some, Result, Ok, Err, refl, unwrap_or}
use Rattle.std.specs.Prelude.{OnOk}
use Rattle.std.specs.Option.{IsSome, is_some, option_map}
use Rattle.clap.specs.Words.{HasKind, IsAmong, Kinds, Row, Text, kind_of}
use Rattle.clap.specs.declared.error.Error.{Error}
use Rattle.clap.specs.declared.error.kind.ErrorKind.{ErrorKind}
use Rattle.clap.specs.declared.error.kind.ErrorKind.TheVariants.{InvalidValue, UnknownArgument, InvalidSubcommand, NoEquals, ValueValidation, TooManyValues, TooFewValues, WrongNumberOfValues, ArgumentConflict, MissingRequiredArgument, MissingSubcommand, DisplayHelp, DisplayHelpOnMissingArgumentOrSubcommand, DisplayVersion, Io, Format, OutOfMemory}
use Rattle.rtps_tool.specs.Words as words
use Rattle.rtps_tool.specs.declared.command.Choice.{Choice}
use Rattle.rtps_tool.specs.declared.command.WordFault.{WordFault}
use Rattle.rtps_tool.specs.declared.runs.Form.{Form}

-- a view of a value or its default
pub unwrap_or-view : {A X : Type 0} (view : A → X) (found : Option A) (default : A) → view (unwrap_or found default) ≡ unwrap_or (option_map view found) (view default)
unwrap_or-view view None default = refl
unwrap_or-view view (Some a) default = refl

-- a fault of one of these kinds is one of them as a fault of words
by_kind : (kinds : Kinds) (error : Error) (kind : ErrorKind) → kind_of error ≡ kind → (kind ≡ OutOfMemory) ⊎ IsAmong kind kinds → words.IsOneOf kinds (words.word_fault_by kind error)
by_kind kinds error OutOfMemory is has = tt
by_kind kinds error DisplayHelp is has = elim has [ inl other ↦ absurd cc | inr among ↦ among ]
by_kind kinds error InvalidValue is has = elim has [ inl other ↦ absurd cc | inr among ↦ rw is among ]
by_kind kinds error UnknownArgument is has = elim has [ inl other ↦ absurd cc | inr among ↦ rw is among ]
by_kind kinds error InvalidSubcommand is has = elim has [ inl other ↦ absurd cc | inr among ↦ rw is among ]
by_kind kinds error NoEquals is has = elim has [ inl other ↦ absurd cc | inr among ↦ rw is among ]
by_kind kinds error ValueValidation is has = elim has [ inl other ↦ absurd cc | inr among ↦ rw is among ]
by_kind kinds error TooManyValues is has = elim has [ inl other ↦ absurd cc | inr among ↦ rw is among ]
by_kind kinds error TooFewValues is has = elim has [ inl other ↦ absurd cc | inr among ↦ rw is among ]
by_kind kinds error WrongNumberOfValues is has = elim has [ inl other ↦ absurd cc | inr among ↦ rw is among ]
by_kind kinds error ArgumentConflict is has = elim has [ inl other ↦ absurd cc | inr among ↦ rw is among ]
by_kind kinds error MissingRequiredArgument is has = elim has [ inl other ↦ absurd cc | inr among ↦ rw is among ]
by_kind kinds error MissingSubcommand is has = elim has [ inl other ↦ absurd cc | inr among ↦ rw is among ]
by_kind kinds error DisplayHelpOnMissingArgumentOrSubcommand is has = elim has [ inl other ↦ absurd cc | inr among ↦ rw is among ]
by_kind kinds error DisplayVersion is has = elim has [ inl other ↦ absurd cc | inr among ↦ among ]
by_kind kinds error Io is has = elim has [ inl other ↦ absurd cc | inr among ↦ rw is among ]
by_kind kinds error Format is has = elim has [ inl other ↦ absurd cc | inr among ↦ rw is among ]

pub one_of : (kinds : Kinds) (error : Error) → HasKind kinds error → words.IsOneOf kinds (words.word_fault_of error)
one_of kinds error has = by_kind kinds error (kind_of error) refl has

-- what holds is so of any result that is none
pub on_ok : {T E : Type 0} (result : Result T E) (P : Type 0) → P → OnOk result P
on_ok (Ok x) P holds = holds
on_ok (Err y) P holds = tt

-- no error of `clap` says that both recordings are standard input
pub by_clap : (kind : ErrorKind) (error : Error) → words.word_fault_by kind error ≡ WordFault.BothInput → ⊥
by_clap InvalidValue error is = absurd cc
by_clap UnknownArgument error is = absurd cc
by_clap InvalidSubcommand error is = absurd cc
by_clap NoEquals error is = absurd cc
by_clap ValueValidation error is = absurd cc
by_clap TooManyValues error is = absurd cc
by_clap TooFewValues error is = absurd cc
by_clap WrongNumberOfValues error is = absurd cc
by_clap ArgumentConflict error is = absurd cc
by_clap MissingRequiredArgument error is = absurd cc
by_clap MissingSubcommand error is = absurd cc
by_clap DisplayHelp error is = absurd cc
by_clap DisplayHelpOnMissingArgumentOrSubcommand error is = absurd cc
by_clap DisplayVersion error is = absurd cc
by_clap Io error is = absurd cc
by_clap Format error is = absurd cc
by_clap OutOfMemory error is = absurd cc

-- a subcommand without matches was not found
pub unfound : {X : Type 0} (matches : Option X) (found : Option Text) (name : Text) → matches ≡ None → (found ≡ Some name → IsSome matches) → found ≡ Some name → ⊥
unfound matches found name none some is =
    let e : false ≡ true = sym (ap is_some none) ∙ some is in cc

-- the name of what was found, of its name and its rows
names : {X : Type 0} (name : X → Text) (rows : X → List Row) (found : Option X) → option_map name found ≡ option_map (λ (p : Text × List Row). p.0) (option_map (λ x. (name x, rows x)) found)
names name rows None = refl
names name rows (Some x) = refl

pub name_found : {X : Type 0} (name : X → Text) (rows : X → List Row) (found : Option X) (pair : Text × List Row) → option_map (λ x. (name x, rows x)) found ≡ Some pair → option_map name found ≡ Some pair.0
name_found name rows found pair is = names name rows found ∙ ap (option_map (λ (p : Text × List Row). p.0)) is

-- a choice has the name of one of the subcommands
pub none_chosen : (found : Option Text) (choice : Choice) → (found ≡ Some (codes "check") → ⊥) → (found ≡ Some (codes "show") → ⊥) → (found ≡ Some (codes "list") → ⊥) → (found ≡ Some (codes "audit") → ⊥)
    → (found ≡ Some (codes "why") → ⊥) → (found ≡ Some (codes "page") → ⊥) → (found ≡ Some (codes "sample") → ⊥) → found ≡ Some (words.subcommand_name choice) → ⊥
none_chosen found (Choice.Report file arrived limits Form.Check demands) check show list audit why page sample is = check is
none_chosen found (Choice.Report file arrived limits Form.CheckJson demands) check show list audit why page sample is = check is
none_chosen found (Choice.Report file arrived limits Form.Why demands) check show list audit why page sample is = why is
none_chosen found (Choice.Report file arrived limits Form.Page demands) check show list audit why page sample is = page is
none_chosen found (Choice.Show file limits captures fragments) check show list audit why page sample is = show is
none_chosen found (Choice.List file limits captures fragments) check show list audit why page sample is = list is
none_chosen found (Choice.Audit file limits captures form asked) check show list audit why page sample is = audit is
none_chosen found Choice.Sample check show list audit why page sample is = sample is
