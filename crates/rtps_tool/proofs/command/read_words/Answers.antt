use Rattle.std.proofs.Common.{◌≡◌, ◌∙◌, inl, inr, sym, refl, true, ap, subst, map, Bor, List, ℕ}
use Rattle.std.proofs.lemmas.Option.{MatchOption-at_some, MatchOption-at_none}
use Rattle.std.proofs.lemmas.Result.{IfErr-weaker, IfOk-weaker, err_from_is_err_and}
use Rattle.clap.specs.Words.{App, HasKind, Kinds, fault_of, kind_of, is_simple, is_simple_and_free, subcommand_of, takes}
use Rattle.clap.proofs.OnLiterals.{clap_on_literals}
use Rattle.rtps_tool.specs.Words as words_spec
use Rattle.rtps_tool.specs.declared.command.Choice.{Choice}
use Rattle.rtps_tool.proofs.WordsLemmas.{by_clap, on_ok, one_of}
use Rattle.rtps_tool.proofs.command.read_words.Goals as goal

-- the program's command line is one of which the definition gives the matches
is_simple-program : is_simple words_spec.program ≡ true
unfolding clap_on_literals
is_simple-program = refl

-- and of which it gives the kinds of refusals
is_free-program : is_simple_and_free words_spec.program ≡ true
unfolding clap_on_literals
is_free-program = refl

pub returns-in_err-matches-clause-taken : goal.returns-in_err-matches-clause-taken
returns-in_err-matches-clause-taken c =
    let words = map (λ (word : Bor (List ℕ)). word.now) c.args.words.now in
    let p = err_from_is_err_and c.from_residual-in_err-matches.result c.from_residual-in_err-matches.ensures.1 in
    let made = c.in_ok-program.ensures in
    rw p.1 (λ taken choice is. inl (p.2 ∙ ap (λ kind. words_spec.word_fault_by kind c.in_err-matches.field-0.0) (c.in_err-matches.ensures.passes (ap (λ (a : App). takes a words) made ∙ taken))))

pub returns-in_err-choice-clause-taken : goal.returns-in_err-choice-clause-taken
returns-in_err-choice-clause-taken c =
    let p = err_from_is_err_and c.from_residual-in_err-choice.result c.from_residual-in_err-choice.ensures.1 in
    rw p.1 (λ taken choice is. inl p.2)

pub returns-in-Some-clause-chosen : goal.returns-in-Some-clause-chosen
returns-in-Some-clause-chosen c =
    let made = c.in_ok-program.ensures in
    let found = c.in_ok-matches.ensures.ok.2 (ap is_simple made ∙ is_simple-program) in
    let words = map (λ (word : Bor (List ℕ)). word.now) c.args.words.now in
    let is_choice = subst (λ found. words_spec.IsChoice found c.in-Some.choice) (found.1 ∙ ap (λ (a : App). subcommand_of a words) made)
    (MatchOption-at_some _ _ c.in-Some.choice c.in-Some.is c.in_ok-choice.ensures) in
    IfOk-weaker c.once.result _ _ (λ chosen is. subst (λ (choice : Choice). words_spec.IsChoice (subcommand_of words_spec.program words) choice) (sym is.0) is_choice) c.once.ensures.ok

pub returns-in-Some-clause-taken : goal.returns-in-Some-clause-taken
returns-in-Some-clause-taken c = IfErr-weaker c.once.result _ _ (λ fault is taken choice given. inr is.0) c.once.ensures.err

pub returns-in-Some-clause-once : goal.returns-in-Some-clause-once
returns-in-Some-clause-once c = IfOk-weaker c.once.result _ _ (λ chosen is. is.1) c.once.ensures.ok

pub returns-in-Some-clause-twice : goal.returns-in-Some-clause-twice
returns-in-Some-clause-twice c =
    let made = c.in_ok-program.ensures in
    let found = c.in_ok-matches.ensures.ok.2 (ap is_simple made ∙ is_simple-program) in
    let words = map (λ (word : Bor (List ℕ)). word.now) c.args.words.now in
    let is_choice = subst (λ found. words_spec.IsChoice found c.in-Some.choice) (found.1 ∙ ap (λ (a : App). subcommand_of a words) made)
    (MatchOption-at_some _ _ c.in-Some.choice c.in-Some.is c.in_ok-choice.ensures) in
    IfErr-weaker c.once.result _ _ (λ fault is both. (c.in-Some.choice, is_choice, is.1)) c.once.ensures.err

pub returns-in-Some-clause-kind : goal.returns-in-Some-clause-kind
returns-in-Some-clause-kind c = IfErr-weaker c.once.result _ _ (λ fault is. subst words_spec.HasItsKind (sym is.0) tt) c.once.ensures.err

pub returns-in-Some-clause-fault : goal.returns-in-Some-clause-fault
returns-in-Some-clause-fault c =
    let words = map (λ (word : Bor (List ℕ)). word.now) c.args.words.now in
    let made = c.in_ok-program.ensures in
    let faultless = sym (ap (λ (a : App). fault_of a words) made) ∙ c.in_ok-matches.ensures.kinds (ap is_simple_and_free made ∙ is_free-program) in
    IfErr-weaker c.once.result _ _ (λ fault is. inl faultless) c.once.ensures.err

pub returns-in_err-matches-clause-twice : goal.returns-in_err-matches-clause-twice
returns-in_err-matches-clause-twice c =
    let p = err_from_is_err_and c.from_residual-in_err-matches.result c.from_residual-in_err-matches.ensures.1 in
    rw p.1 (λ both. absurd (by_clap (kind_of c.in_err-matches.field-0.0) c.in_err-matches.field-0.0 (sym p.2 ∙ both)))

pub returns-clause-taken : goal.returns-clause-taken
returns-clause-taken c =
    let made = c.in_ok-program.ensures in
    let found = c.in_ok-matches.ensures.ok.2 (ap is_simple made ∙ is_simple-program) in
    let words = map (λ (word : Bor (List ℕ)). word.now) c.args.words.now in
    let none = MatchOption-at_none _ _ c.in-None.is c.in_ok-choice.ensures in
    λ taken choice is. absurd (none choice (subst (λ found. words_spec.IsChoice found choice) (sym (found.1 ∙ ap (λ (a : App). subcommand_of a words) made)) is))

pub returns-in_err-matches-clause-fault : goal.returns-in_err-matches-clause-fault
returns-in_err-matches-clause-fault c =
    let words = map (λ (word : Bor (List ℕ)). word.now) c.args.words.now in
    let p = err_from_is_err_and c.from_residual-in_err-matches.result c.from_residual-in_err-matches.ensures.1 in
    let made = c.in_ok-program.ensures in
    let has = c.in_err-matches.ensures.kinds (ap is_simple_and_free made ∙ is_free-program) in
    rw p.1 (inr (subst (words_spec.IsOneOf (fault_of words_spec.program words)) (sym p.2)
    (one_of (fault_of words_spec.program words) c.in_err-matches.field-0.0 (subst (λ (kinds : Kinds). HasKind kinds c.in_err-matches.field-0.0) (ap (λ (a : App). fault_of a words) made) has))))

pub returns-in-Some-clause-faultless : goal.returns-in-Some-clause-faultless
returns-in-Some-clause-faultless c =
    let words = map (λ (word : Bor (List ℕ)). word.now) c.args.words.now in
    let made = c.in_ok-program.ensures in
    on_ok c.once.result _ (sym (ap (λ (a : App). fault_of a words) made) ∙ c.in_ok-matches.ensures.kinds (ap is_simple_and_free made ∙ is_free-program))

pub returns-clause-fault : goal.returns-clause-fault
returns-clause-fault c =
    let words = map (λ (word : Bor (List ℕ)). word.now) c.args.words.now in
    let made = c.in_ok-program.ensures in
    inl (sym (ap (λ (a : App). fault_of a words) made) ∙ c.in_ok-matches.ensures.kinds (ap is_simple_and_free made ∙ is_free-program))
