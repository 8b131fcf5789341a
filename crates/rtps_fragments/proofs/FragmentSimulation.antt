-- Where a recording with fragments and one without tell alike, each list of allowed events of the latter has one of the former by
-- which the reader has a word for the same numbers.
use Rattle.std.proofs.lemmas.Bool.Decides.{nat_tests}
use Rattle.std.proofs.Common.{◌≡◌, ℕ, suc, ◌<◌, List, [], ◌∷◌, ◌++◌, length, refl, sym, ◌∙◌, ap, subst, arith, inl, inr}
use Rattle.std.specs.Prelude.{Contains}
use Rattle.std.proofs.lemmas.List.Elements.{Contains-append_left, Contains-push, Contains-push_cases}
use Rattle.rtps_audit.specs.Delivery as delivery
use Rattle.rtps_audit.specs.RunVerdict as run_verdict
use Rattle.rtps_fragments.specs.FragmentDelivery as fragment_delivery
use Rattle.rtps_fragments.specs.FragmentVerdict as fragment_verdict
use Rattle.rtps_fragments.specs.Laws as laws
use Rattle.rtps_fragments.proofs.FragmentRuns.{Takes, follow_on, take_any, word_stays}

-- As much is sent. What is held without fragments the reader has a word for, and it holds nothing of other numbers.
pub record IsLike (s : delivery.DeliveryState) (t : fragment_delivery.FragmentState) : Type 0 where
  pub sent : t.sent ≡ s.sent
  pub has : (n : ℕ) → delivery.Holds s n → fragment_delivery.HasWord t n
  pub words : (n : ℕ) (word : delivery.Word) → fragment_delivery.HoldsWord t n word → delivery.Holds s n
  pub fragments : (f : fragment_delivery.Fragment) → fragment_delivery.HoldsFragment t f → delivery.Holds s f.number

start_like : IsLike delivery.start fragment_delivery.fragment_start
start_like = grind (arith, nat_tests)

-- from a state on, the reader comes to one that is like this one
abbrev Likens : ℕ → fragment_delivery.FragmentSpeech → fragment_delivery.FragmentState → delivery.DeliveryState → Type 0
Likens from pieces t s = (events : List fragment_delivery.FragmentEvent) × (u : fragment_delivery.FragmentState) × fragment_delivery.FragmentsFollow from pieces t events u × IsLike s u

module _ (from : ℕ) (pieces : fragment_delivery.FragmentSpeech) (told : delivery.Speech) (alike : laws.TellsAlike from pieces told) where
  send_like : (s : delivery.DeliveryState) (t : fragment_delivery.FragmentState) → IsLike s t → delivery.MaySend from told s → Likens from pieces t (record { sent = suc s.sent; held = s.held })
  send_like s t like may =
      let next : fragment_delivery.FragmentState = record { sent = suc t.sent; held = t.held; fragments = t.fragments } in
      let within : t.sent < length pieces = (let lt = may.0 in let same = like.sent in let counted = alike.counted in omega arith) in (
        fragment_delivery.FragmentEvent.Send ∷ [],
        next,
        (
          next,
          (
            (within, λ n claims. like.has n (may.1 n (subst (λ j. delivery.Claims from told j n) like.sent ((alike.claims t.sent n).0 claims)))),
            refl,
          ),
          refl,
        ),
        record { sent = ap suc like.sent; has = like.has; words = like.words; fragments = like.fragments },
      )

  take_like : (s : delivery.DeliveryState) (t : fragment_delivery.FragmentState) → IsLike s t → (i k n : ℕ) (word : delivery.Word) → i < s.sent → delivery.Gives from told i k n word
      → Likens from pieces t (record { sent = s.sent; held = s.held ++ (n, word) ∷ [] })
  take_like s t like i k n word lt gives = by (take_any pieces t n before)
    where
      tells : run_verdict.IsTold from told s.sent n
      tells = record { place = i; act = k; word = word; earlier = lt; gives = gives }

      before : fragment_verdict.IsWordBefore from pieces t.sent n
      before = subst (λ j. fragment_verdict.IsWordBefore from pieces j n) (sym like.sent) ((alike.words s.sent n).1 tells)

      grown : (m : ℕ) → delivery.Holds s m → delivery.Holds (record { sent = s.sent; held = s.held ++ (n, word) ∷ [] }) m
      grown m (other, among) = (other, Contains-append_left s.held _ _ among)

      here : (m : ℕ) → n ≡ m → delivery.Holds (record { sent = s.sent; held = s.held ++ (n, word) ∷ [] }) m
      here m same = (word, subst (λ o. Contains (s.held ++ (n, word) ∷ []) (o, word)) same (Contains-push s.held (n, word)))

      by : Takes from pieces t n (λ u. fragment_delivery.HasWord u n) → Likens from pieces t (record { sent = s.sent; held = s.held ++ (n, word) ∷ [] })
      by (events, u, follows, more, has) = (
        events,
        u,
        follows,
        record {
          sent = more.sent ∙ like.sent;
          has = λ m h. elim (Contains-push_cases s.held (n, word) (m, h.0) h.1) [
            | inl old ↦ word_stays n t u more m (like.has m (h.0, old))
            | inr new ↦ subst (fragment_delivery.HasWord u) (ap (λ (p : ℕ × delivery.Word). p.0) new) has
          ];
          words = λ m other h. elim (more.new_words m other h) [
            | inl old ↦ grown m (like.words m other old)
            | inr same ↦ here m same
          ];
          fragments = λ f h. elim (more.new_fragments f h) [
            | inl old ↦ grown f.number (like.fragments f old)
            | inr same ↦ here f.number same
          ];
        },
      )

  step_like : (s : delivery.DeliveryState) (event : delivery.Event) (after : delivery.DeliveryState) (t : fragment_delivery.FragmentState) → delivery.Step from told s event after → IsLike s t → Likens from pieces t after
  step_like s delivery.Event.Send after t (may, is) like = subst (Likens from pieces t) (sym is) (send_like s t like may)
  step_like s (delivery.Event.Take i k n word) after t (lt, gives, is) like = subst (Likens from pieces t) (sym is) (take_like s t like i k n word lt gives)

  follow_like : (s : delivery.DeliveryState) (events : List delivery.Event) (after : delivery.DeliveryState) (t : fragment_delivery.FragmentState) → delivery.Follows from told s events after → IsLike s t → Likens from pieces t after
  follow_like s [] after t is like = ([], t, refl, subst (λ x. IsLike x t) (sym is) like)
  follow_like s (event ∷ events) after t (mid, step, more) like =
      let first = step_like s event mid t step like in
      let rest = follow_like mid events after first.1 more first.3 in
      (first.0 ++ rest.0, rest.1, follow_on from pieces t first.1 rest.1 first.0 rest.0 first.2 rest.2, rest.3)

  -- each state that is reached without fragments is like one that is reached with them
  pub reached_like : (s : delivery.DeliveryState) → delivery.IsReached from told s → (t : fragment_delivery.FragmentState) × fragment_delivery.IsFragmentReached from pieces t × IsLike s t
  reached_like s (events, follows) =
      let found = follow_like delivery.start events s fragment_delivery.fragment_start follows start_like in
      (found.1, (found.0, found.2), found.3)
