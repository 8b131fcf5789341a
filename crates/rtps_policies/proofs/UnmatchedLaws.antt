-- What is listed as unmatched.
use Rattle.std.proofs.Common.{◌≡◌, ◌≢◌, ◌∙◌, ◌↔◌, Bool, true, false, Contains, Decides, List, [], ◌∷◌, None, Some, ap, ap₂, arith, if◌then◌else◌, is_some, length, map, not, refl, subst, sym, unwrap_or}
use Rattle.std.specs.Cmp.Lexicographic.{bytes_decides}
use Rattle.std.proofs.lemmas.Bool.{false≢true, true≢false}
use Rattle.std.proofs.lemmas.Bool.Decides.{Decides-and, Decides-like}
use Rattle.rtps_receiver.specs.Values as values
use Rattle.rtps_discovery.specs.Directory as directory
use Rattle.rtps_discovery.specs.Endpoint as endpoint
use Rattle.rtps_discovery.specs.Matching as matching
use Rattle.rtps_discovery.specs.Notice as notice
use Rattle.rtps_discovery.specs.declared.endpoint.Side.{Side}
use Rattle.rtps_policies.specs.Announcing as announcing
use Rattle.rtps_policies.specs.Fitting as fitting
use Rattle.rtps_policies.specs.Silence as silence
use Rattle.rtps_policies.specs.Unmatched as unmatched
use Rattle.rtps_policies.specs.declared.fitting.Policy.{Policy}
use Rattle.rtps_policies.proofs.Members.{from_filter_map, from_flat_map, from_map, into_filter_map, into_flat_map, into_map}

-- ---- the test of a writer and a reader

-- a writer and a reader of one topic that are not in two domains
record MayMatch (writer reader : fitting.ProfileValue) : Type 0 where
  is_writer : writer.endpoint.side ≡ Side.Writer
  is_reader : reader.endpoint.side ≡ Side.Reader
  one_topic : writer.endpoint.topic ≡ reader.endpoint.topic
  may_meet : silence.two_domains writer.host reader.host ≡ false

writer_decides : (side : Side) → Decides (matching.is_writer side) (side ≡ Side.Writer)
writer_decides Side.Writer = (λ _. refl, λ _. refl)
writer_decides Side.Reader = (λ e. absurd (false≢true e), λ e. cc)

reader_decides : (side : Side) → Decides (matching.is_reader side) (side ≡ Side.Reader)
reader_decides Side.Writer = (λ e. absurd (false≢true e), λ e. cc)
reader_decides Side.Reader = (λ _. refl, λ _. refl)

not_decides : (b : Bool) → Decides (not b) (b ≡ false)
not_decides true = (λ e. absurd (false≢true e), λ e. absurd (true≢false e))
not_decides false = (λ _. refl, λ _. refl)

may_decides : (writer reader : fitting.ProfileValue) → Decides (unmatched.may_match writer reader) (MayMatch writer reader)
may_decides writer reader =
    Decides-like _ (λ h. record { is_writer = h.0; is_reader = h.1.0; one_topic = h.1.1.0; may_meet = h.1.1.1 }) (λ h. (h.is_writer, (h.is_reader, (h.one_topic, h.may_meet))))
    (Decides-and _ _ (writer_decides writer.endpoint.side) (Decides-and _ _ (reader_decides reader.endpoint.side)
    (Decides-and _ _ (bytes_decides writer.endpoint.topic reader.endpoint.topic) (not_decides (silence.two_domains writer.host reader.host)))))

-- ---- a pair with its reasons

given : (writer reader : fitting.ProfileValue) (found : List Policy) → found ≢ [] → unmatched.with_reasons writer reader found ≡ Some (record { writer = writer; reader = reader; reasons = found })
given writer reader [] some = absurd (some refl)
given writer reader (policy ∷ policies) some = refl

-- what a list of reasons makes
pub record IsGiven (writer reader : fitting.ProfileValue) (found : List Policy) (one : unmatched.UnmatchedValue) : Type 0 where
  pub writer_is : one.writer ≡ writer
  pub reader_is : one.reader ≡ reader
  pub reasons_are : one.reasons ≡ found
  pub some : one.reasons ≢ []

pub is_given : (writer reader : fitting.ProfileValue) (found : List Policy) (one : unmatched.UnmatchedValue) → unmatched.with_reasons writer reader found ≡ Some one → IsGiven writer reader found one
is_given writer reader [] one made = absurd (false≢true (ap is_some made))
is_given writer reader (policy ∷ policies) one made =
    let e : record { writer = writer; reader = reader; reasons = policy ∷ policies } ≡ one = ap (λ o. unwrap_or o one) made in
    let listed : one.reasons ≡ policy ∷ policies = sym (ap (λ (x : unmatched.UnmatchedValue). x.reasons) e) in
    record {
      writer_is = sym (ap (λ (x : unmatched.UnmatchedValue). x.writer) e);
      reader_is = sym (ap (λ (x : unmatched.UnmatchedValue). x.reader) e);
      reasons_are = listed;
      some = λ none. absurd (omega (arith, ap length (sym listed ∙ none)));
    }

pub made_by : (writer reader : fitting.ProfileValue) (one : unmatched.UnmatchedValue) → unmatched.unmatched_of writer reader ≡ Some one → (unmatched.may_match writer reader ≡ true) × (unmatched.with_reasons writer reader (fitting.reasons writer reader) ≡ Some one)
made_by writer reader one made = by (unmatched.may_match writer reader) refl made
  where
    by : (b : Bool) → unmatched.may_match writer reader ≡ b → (if b then unmatched.with_reasons writer reader (fitting.reasons writer reader) else None) ≡ Some one → (unmatched.may_match writer reader ≡ true) × (unmatched.with_reasons writer reader (fitting.reasons writer reader) ≡ Some one)
    by true is made = (is, made)
    by false is made = absurd (false≢true (ap is_some made))

itself : (one : unmatched.UnmatchedValue) → unmatched.may_match one.writer one.reader ≡ true → one.reasons ≡ fitting.reasons one.writer one.reader → one.reasons ≢ [] → unmatched.unmatched_of one.writer one.reader ≡ Some one
itself one may is some =
    ap (λ (b : Bool). if b then unmatched.with_reasons one.writer one.reader (fitting.reasons one.writer one.reader) else None) may
    ∙ ap (unmatched.with_reasons one.writer one.reader) (sym is) ∙ given one.writer one.reader one.reasons some

-- ---- the list

pub unmatched_listed : (acts : List values.ActValue) (settled : List endpoint.EndpointValue) (one : unmatched.UnmatchedValue) → ((endpoint : endpoint.EndpointValue) → Contains settled endpoint ↔ directory.IsSettled (notice.endpoints_among acts) endpoint)
    → Contains (unmatched.unmatched_among acts settled) one ↔ unmatched.IsUnmatched acts one
unmatched_listed acts settled one are = (there, back)
  where
    there : Contains (unmatched.unmatched_among acts settled) one → unmatched.IsUnmatched acts one
    there c =
        let profiles = map (announcing.profile_among acts) settled in
        let w = from_flat_map (λ writer. unmatched.unmatched_with writer profiles) profiles one c in
        let r = from_filter_map (unmatched.unmatched_of w.0) profiles one w.2 in
        let writer = from_map (announcing.profile_among acts) settled w.0 w.1 in
        let reader = from_map (announcing.profile_among acts) settled r.0 r.1 in
        let made = made_by w.0 r.0 one r.2 in
        let may = (may_decides (announcing.profile_among acts writer.0) (announcing.profile_among acts reader.0)).0
        (subst (λ p. unmatched.may_match p (announcing.profile_among acts reader.0) ≡ true) (sym writer.2) (subst (λ p. unmatched.may_match w.0 p ≡ true) (sym reader.2) made.0)) in
        let is = is_given w.0 r.0 (fitting.reasons w.0 r.0) one made.1 in
        record {
          writer = writer.0;
          reader = reader.0;
          writer_settled = (are writer.0).0 writer.1;
          reader_settled = (are reader.0).0 reader.1;
          is_writer = may.is_writer;
          is_reader = may.is_reader;
          one_topic = may.one_topic;
          may_meet = may.may_meet;
          writer_is = is.writer_is ∙ sym writer.2;
          reader_is = is.reader_is ∙ sym reader.2;
          reasons_are = is.reasons_are ∙ ap₂ fitting.reasons (sym is.writer_is) (sym is.reader_is);
          some = is.some;
        }

    back : unmatched.IsUnmatched acts one → Contains (unmatched.unmatched_among acts settled) one
    back u =
        let profiles = map (announcing.profile_among acts) settled in
        let may = (may_decides (announcing.profile_among acts u.writer) (announcing.profile_among acts u.reader)).1
        (record { is_writer = u.is_writer; is_reader = u.is_reader; one_topic = u.one_topic; may_meet = u.may_meet }) in
        let made = itself one (subst (λ p. unmatched.may_match p one.reader ≡ true) (sym u.writer_is) (subst (λ p. unmatched.may_match (announcing.profile_among acts u.writer) p ≡ true) (sym u.reader_is) may)) u.reasons_are u.some in
        let writer = into_map (announcing.profile_among acts) settled u.writer ((are u.writer).1 u.writer_settled) in
        let reader = into_map (announcing.profile_among acts) settled u.reader ((are u.reader).1 u.reader_settled) in
        into_flat_map (λ writer. unmatched.unmatched_with writer profiles) profiles one.writer one (subst (λ p. Contains profiles p) (sym u.writer_is) writer)
        (into_filter_map (unmatched.unmatched_of one.writer) profiles one.reader one (subst (λ p. Contains profiles p) (sym u.reader_is) reader) made)
