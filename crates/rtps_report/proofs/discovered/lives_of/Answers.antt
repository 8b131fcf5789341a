use Rattle.std.proofs.Common.{◌≡◌, ◌∙◌, Bool, true, false, [], List, None, ap, cond, map, refl, sym}
use Rattle.rtps_known.specs.declared.life.Life.{Life}
use Rattle.rtps_report.specs.TwoLives as two_lives
use Rattle.rtps_report.specs.declared.two_lives.TwoLives.{TwoLives}
use Rattle.rtps_report.proofs.discovered.lives_of.Goals as goal

-- what is told by whether the recording has times
told : List Life → Bool → List TwoLives
told lives there = cond there (map two_lives.two_lives_of (two_lives.firsts_behind None lives)) []

none_told : (lives : List Life) → [] ≡ told lives false
unfolding told
none_told lives = refl

all_told : (lives : List Life) → map two_lives.two_lives_of (two_lives.firsts_behind None lives) ≡ told lives true
unfolding told
all_told lives = refl

pub returns-then-not-are_there : goal.returns-then-not-are_there
unfolding told
returns-then-not-are_there c = λ recording known.
    let lives = c.in_ok-lives.lives.items in
    record {
      lives = lives;
      are_lives = c.in_ok-lives.ensures _ known;
      is_found = c.new.ensures.items ∙ none_told lives ∙ sym (ap (told lives) (sym c.are_there.ensures ∙ c.if-not-are_there.true));
    }

pub returns : goal.returns
unfolding told
returns c = λ recording known.
    let lives = c.in_ok-lives.lives.items in
    record {
      lives = lives;
      are_lives = c.in_ok-lives.ensures _ known;
      is_found = c.in_ok-found.ensures ∙ ap (λ (those : List Life). map two_lives.two_lives_of (two_lives.firsts_behind None those)) c.deref.ensures.value ∙ all_told lives
          ∙ sym (ap (told lives) (sym c.are_there.ensures ∙ c.if-not-are_there.false));
    }
