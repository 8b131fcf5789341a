-- Facts on a text of which a part was read.
use Rattle.std.proofs.Common.{◌≡◌, ◌≢◌, ℕ, suc, ◌+◌, ◌-◌, ◌<◌, ◌≤◌, true, false, Bool, List, [], ◌∷◌, ◌++◌, length, take, drop, get_or, None, Some, Ok, Err, refl, sym, ap, ap₂, ◌∙◌, subst, arith}
use Rattle.std.specs.Prelude.{if◌then◌else◌, ◌||◌, is_some, nat_le, nat_lt, MatchResult, Result}
use Rattle.std.specs.List.{position}
use Rattle.std.specs.Str.Lines.{strip_carriage_return}
use Rattle.std.proofs.lemmas.List.{append-nil, length-append, length-take, get_or-take, drop-drop}
use Rattle.std.proofs.lemmas.Bool.Decides.{nat_tests}
use Rattle.rtps_capture.specs.Course as course
use Rattle.rtps_capture.specs.Opening as opening
use Rattle.rtps_capture.proofs.Offered.{is_pcapng-append, order_of-append}
use Rattle.rtps_tool.specs.Outcomes as outcomes
use Rattle.rtps_tool.specs.Forms as forms
use Rattle.rtps_tool.specs.Lines as lines_spec
use Rattle.rtps_tool.specs.RecordingCapture as recording_capture
use Rattle.rtps_tool.specs.RecordingText as recording_text
use Rattle.rtps_tool.specs.Sums as sums
use Rattle.rtps_tool.specs.Unfinished as unfinished
use Rattle.rtps_capture.specs.declared.captures.Captures.{Captures}
use Rattle.rtps_tool.specs.declared.faults.RecFault.{RecFault}
use Rattle.rtps_tool.specs.declared.form.line_reader.LineReader.{LineReader}
use Rattle.rtps_tool.specs.declared.runs.Limits.{Limits}
use Rattle.rtps_tool.proofs.LinesLemmas.{lines_of-append, lines_of-unfinished, first_part, later_parts}
use Rattle.rtps_tool.proofs.RecordingLemmas.{with_front-ok, with_front-all, with_front-none, IsFaultOf-with_front, recording_of_lines-skipped, recording_of_lines-faulty}

-- nothing was read yet
pub recording_behind-start : (most : ℕ) (text : List ℕ) → unfinished.recording_behind most [] 0 text ≡ recording_text.recording_of_lines most 1 0 (lines_spec.lines_of text)
unfolding unfinished.recording_behind
recording_behind-start most text = with_front-none _

-- nothing is left
pub recording_behind-end : (most : ℕ) (done : List (List ℕ)) (lines : ℕ) (left : List ℕ) → length left ≡ 0 → unfinished.recording_behind most done lines left ≡ Ok done
unfolding unfinished.recording_behind
recording_behind-end most done lines left none = with_front-all most _ _ done left none

-- a line with no fault was read
pub recording_behind-line : (most : ℕ) (done found : List (List ℕ)) (lines next : ℕ) (line text left : List ℕ) → lines_spec.lines_of text ≡ line ∷ lines_spec.lines_of left
    → recording_text.recording_of_lines most (lines + 1) (length done) (line ∷ []) ≡ Ok found → next ≡ lines + 1
    → unfinished.recording_behind most (done ++ found) next left ≡ unfinished.recording_behind most done lines text
unfolding unfinished.recording_behind
recording_behind-line most done found lines next line text left cut fine one =
    rw one (with_front-ok most (lines + 1) done found (done ++ found) line (lines_spec.lines_of left) fine refl
    ∙ ap (λ (all : List (List ℕ)). unfinished.with_front done (recording_text.recording_of_lines most (lines + 1) (length done) all)) (sym cut))

-- a line with a fault was read
pub recording_behind-fault : (most : ℕ) (done : List (List ℕ)) (lines : ℕ) (line text left : List ℕ) (fault : RecFault) → lines_spec.lines_of text ≡ line ∷ lines_spec.lines_of left
    → outcomes.IsFaultOf (recording_text.recording_of_lines most (lines + 1) (length done) (line ∷ [])) fault → outcomes.IsFaultOf (unfinished.recording_behind most done lines text) fault
unfolding unfinished.recording_behind
recording_behind-fault most done lines line text left fault cut faulty =
    subst (λ (all : List (List ℕ)). outcomes.IsFaultOf (unfinished.with_front done (recording_text.recording_of_lines most (lines + 1) (length done) all)) fault) (sym cut)
    (IsFaultOf-with_front most (lines + 1) done line (lines_spec.lines_of left) fault faulty)

-- the last line was read, which no end follows
pub recording_behind-last : (most : ℕ) (done : List (List ℕ)) (old new : LineReader) (line text : List ℕ) (Told : List course.DatagramValue → Type 0) (read : Result Unit RecFault)
    → lines_spec.lines_of text ≡ strip_carriage_return text ∷ [] → line ≡ strip_carriage_return text
    → MatchResult read
    (λ _. (found : List (List ℕ)) × (recording_text.recording_of_lines most (old.lines + 1) (length done) (line ∷ []) ≡ Ok found) × unfinished.HasTold Told new (done ++ found))
    (outcomes.IsFaultOf (recording_text.recording_of_lines most (old.lines + 1) (length done) (line ∷ [])))
    → MatchResult read (λ _. unfinished.IsReadWhole most done old text Told) (outcomes.IsFaultOf (unfinished.recording_behind most done old.lines text))
recording_behind-last most done old new line text Told (Ok u) cut is fine = record {
  all = done ++ fine.0;
  told = fine.2.told;
  stands = sym (recording_behind-line most done fine.0 old.lines (old.lines + 1) line text [] (cut ∙ ap (λ (first : List ℕ). first ∷ []) (sym is)) fine.1 refl)
      ∙ recording_behind-end most (done ++ fine.0) (old.lines + 1) [] refl;
}
recording_behind-last most done old new line text Told (Err fault) cut is faulty =
    recording_behind-fault most done old.lines line text [] fault (cut ∙ ap (λ (first : List ℕ). first ∷ []) (sym is)) faulty

-- a taker of octets alone has those of a text
pub octets_of-untimed : (datagrams : List (List ℕ)) → sums.octets_of (recording_text.untimed datagrams) ≡ datagrams
octets_of-untimed [] = refl
octets_of-untimed (datagram ∷ datagrams) = ap (λ (rest : List (List ℕ)). datagram ∷ rest) (octets_of-untimed datagrams)

-- a taker is told one datagram more of a text
pub untimed-more : (datagrams : List (List ℕ)) (datagram : List ℕ) → recording_text.untimed (datagrams ++ datagram ∷ []) ≡ recording_text.untimed datagrams ++ (record { octets = datagram; time = None; frame = 0 }) ∷ []
untimed-more [] datagram = refl
untimed-more (first ∷ datagrams) datagram =
    let one : course.DatagramValue = record { octets = first; time = None; frame = 0 } in
    ap (λ (rest : List course.DatagramValue). one ∷ rest) (untimed-more datagrams datagram)

-- a line without the carriage return at its end begins as before, and is shorter by one octet at most
shorter_by_one : (line : List ℕ) (b : Bool) → length line ≤ suc (length (if b then take (length line - 1) line else line))
shorter_by_one line true = omega (arith, length-take (length line - 1) line)
shorter_by_one line false = omega arith

begins_same : (line : List ℕ) (b : Bool) → 1 < length line → get_or (if b then take (length line - 1) line else line) 0 0 ≡ get_or line 0 0
begins_same line true some = get_or-take (length line - 1) line 0 0 (omega arith)
begins_same line false some = refl

strip_shorter : (line : List ℕ) → length line ≤ suc (length (strip_carriage_return line))
strip_shorter line = shorter_by_one line _

strip_begins : (line : List ℕ) → 1 < length line → get_or (strip_carriage_return line) 0 0 ≡ get_or line 0 0
strip_begins line some = begins_same line _ some

-- whether a line is one of a datagram its first octet tells
comment_line : (line : List ℕ) → get_or line 0 0 ≡ 35 → recording_text.is_datagram_line line ≡ false
comment_line line first = grind (arith, nat_tests)

long_is_datagram : (line : List ℕ) → 131070 < length line → get_or line 0 0 ≢ 35 → recording_text.is_datagram_line line ≡ true
long_is_datagram line long plain = grind (arith, nat_tests)

comment_is_skipped : (text : List ℕ) → recording_text.is_datagram_line (strip_carriage_return (35 ∷ text)) ≡ false
comment_is_skipped [] = refl
comment_is_skipped (c ∷ text) = comment_line (strip_carriage_return (35 ∷ c ∷ text)) (strip_begins (35 ∷ c ∷ text) (omega arith))

-- of a comment that goes on its first octet tells all
pub recording_behind-comment : (most : ℕ) (done : List (List ℕ)) (lines : ℕ) (text later : List ℕ) → position lines_spec.is_line_feed (35 ∷ text) ≡ None
    → unfinished.recording_behind most done lines (35 ∷ later) ≡ unfinished.recording_behind most done lines (35 ∷ text ++ later)
unfolding unfinished.recording_behind
recording_behind-comment most done lines text later none =
    let rest = later_parts (lines_spec.parts_of later) in
    let short = lines_of-unfinished 35 [] later refl in
    let long = lines_of-unfinished 35 text later none in
    let one = ap (recording_text.recording_of_lines most (lines + 1) (length done)) short ∙ recording_of_lines-skipped most (lines + 1) (length done) _ _ (comment_is_skipped (first_part (lines_spec.parts_of later))) in
    let other = ap (recording_text.recording_of_lines most (lines + 1) (length done)) long ∙ recording_of_lines-skipped most (lines + 1) (length done) _ _ (comment_is_skipped (text ++ first_part (lines_spec.parts_of later))) in
    ap (unfinished.with_front done) (one ∙ sym other)

long_line : (line : List ℕ) → 131071 < length line → 131070 < length (strip_carriage_return line)
long_line line long = omega (arith, strip_shorter line)

plain_line : (line : List ℕ) → 131071 < length line → get_or line 0 0 ≢ 35 → get_or (strip_carriage_return line) 0 0 ≢ 35
plain_line line long plain = λ comment. plain (sym (strip_begins line (omega arith)) ∙ comment)

long_fault_first : (most : ℕ) (before number : ℕ) (line : List ℕ) → most ≤ before → recording_text.line_fault most before number line ≡ Some RecFault.TooMany
long_fault_first most before number line many = grind (arith, nat_tests)

long_fault : (most : ℕ) (before number : ℕ) (line : List ℕ) → before < most → 131070 < length line → recording_text.line_fault most before number line ≡ Some (RecFault.TooLong number)
long_fault most before number line few long = grind (arith, nat_tests)

-- a line that goes on and is too long, whatever comes later
recording_behind-faulty : (most : ℕ) (done : List (List ℕ)) (lines b : ℕ) (text later : List ℕ) (fault : RecFault) → position lines_spec.is_line_feed (b ∷ text) ≡ None
    → 131071 < length (b ∷ text) → b ≢ 35
    → ((line : List ℕ) → 131070 < length line → recording_text.line_fault most (length done) (lines + 1) line ≡ Some fault)
    → unfinished.recording_behind most done lines (b ∷ text ++ later) ≡ Err fault
unfolding unfinished.recording_behind
recording_behind-faulty most done lines b text later fault none long plain faulty =
    let line : List ℕ = b ∷ text ++ first_part (lines_spec.parts_of later) in
    let cut = lines_of-unfinished b text later none in
    let size : 131071 < length line = omega (arith, length-append text (first_part (lines_spec.parts_of later))) in
    let far = long_line line size in
    ap (λ (all : List (List ℕ)). unfinished.with_front done (recording_text.recording_of_lines most (lines + 1) (length done) all)) cut
    ∙ ap (unfinished.with_front done) (recording_of_lines-faulty most (lines + 1) (length done) (strip_carriage_return line) _ fault
    (long_is_datagram (strip_carriage_return line) far (plain_line line size plain)) (faulty (strip_carriage_return line) far))

pub recording_behind-many : (most : ℕ) (done : List (List ℕ)) (lines : ℕ) (text later : List ℕ) → position lines_spec.is_line_feed text ≡ None
    → 131071 < length text → get_or text 0 0 ≢ 35 → most ≤ length done → unfinished.recording_behind most done lines (text ++ later) ≡ Err RecFault.TooMany
recording_behind-many most done lines [] later none long plain many = absurd (omega arith)
recording_behind-many most done lines (b ∷ text) later none long plain many =
    recording_behind-faulty most done lines b text later RecFault.TooMany none long plain (λ line _. long_fault_first most (length done) (lines + 1) line many)

pub recording_behind-long : (most : ℕ) (done : List (List ℕ)) (lines : ℕ) (text later : List ℕ) → position lines_spec.is_line_feed text ≡ None
    → 131071 < length text → get_or text 0 0 ≢ 35 → length done < most → unfinished.recording_behind most done lines (text ++ later) ≡ Err (RecFault.TooLong (lines + 1))
recording_behind-long most done lines [] later none long plain few = absurd (omega arith)
recording_behind-long most done lines (b ∷ text) later none long plain few =
    recording_behind-faulty most done lines b text later (RecFault.TooLong (lines + 1)) none long plain (λ line far. long_fault most (length done) (lines + 1) line few far)

pub recording_behind-comment-at : (most : ℕ) (done : List (List ℕ)) (lines : ℕ) (text later : List ℕ) → position lines_spec.is_line_feed text ≡ None
    → 0 < length text → get_or text 0 0 ≡ 35 → unfinished.recording_behind most done lines (take 1 text ++ later) ≡ unfinished.recording_behind most done lines (text ++ later)
recording_behind-comment-at most done lines [] later none some first = absurd (omega arith)
recording_behind-comment-at most done lines (b ∷ text) later none some first =
    subst (λ (c : ℕ). position lines_spec.is_line_feed (c ∷ text) ≡ None → unfinished.recording_behind most done lines (c ∷ later) ≡ unfinished.recording_behind most done lines (c ∷ text ++ later))
    (sym first) (recording_behind-comment most done lines text later) none

-- an input that is too long
pub recording_of-past : (limits : Limits) (captures : Captures) (input : List ℕ) → limits.octets < length input → forms.recording_within limits captures input ≡ Err RecFault.TooMany
recording_of-past limits captures input past = grind (arith, nat_tests)

-- an input that is not too long stands for what it is in its form
pub recording_of-within : (limits : Limits) (captures : Captures) (input : List ℕ) → length input ≤ limits.octets
    → forms.recording_within limits captures input ≡ forms.recording_in captures limits.datagrams input
recording_of-within limits captures input within = let few : nat_lt limits.octets (length input) ≡ false = grind (arith, nat_tests) in rw few refl

-- octets that begin no capture
pub recording_in-text : (captures : Captures) (most : ℕ) (text : List ℕ) → forms.begins_capture captures text ≡ false → forms.recording_in captures most text ≡ recording_text.recording_of_text most text
recording_in-text captures most text plain = ap (λ (is : Bool). forms.recording_in_form captures most is text) plain

-- octets that begin one
pub recording_of-capture : (limits : Limits) (captures : Captures) (input : List ℕ) → length input ≤ limits.octets → forms.begins_capture captures input ≡ true
    → forms.recording_within limits captures input ≡ recording_capture.recording_of_capture captures limits.datagrams input
recording_of-capture limits captures input within is =
    recording_of-within limits captures input within ∙ ap (λ (one : Bool). forms.recording_in_form captures limits.datagrams one input) is

-- a text stands for what its lines stand for
pub recording_of-text : (limits : Limits) (captures : Captures) (text : List ℕ) → length text ≤ limits.octets → forms.begins_capture captures text ≡ false
    → forms.recording_within limits captures text ≡ recording_text.without_frames (recording_text.recording_of_lines limits.datagrams 1 0 (lines_spec.lines_of text))
unfolding recording_text.recording_of_text
recording_of-text limits captures text within plain = recording_of-within limits captures text within ∙ recording_in-text captures limits.datagrams text plain

-- the first four octets tell whether an input begins as a capture does
pub begins_capture-append : (captures : Captures) (start more : List ℕ) → 4 ≤ length start → forms.begins_capture captures (start ++ more) ≡ forms.begins_capture captures start
begins_capture-append Captures.Classic start more enough = ap is_some (order_of-append start more enough)
begins_capture-append Captures.Any start more enough = ap₂ (λ (one other : Bool). one || other) (ap is_some (order_of-append start more enough)) (is_pcapng-append start more enough)

-- fewer octets begin none
pub begins_capture-short : (captures : Captures) (input : List ℕ) → length input < 4 → forms.begins_capture captures input ≡ false
unfolding opening.order_of
begins_capture-short Captures.Classic input few = let short : nat_lt (length input) 4 ≡ true = grind (arith, nat_tests) in rw short refl
begins_capture-short Captures.Any input few =
    let short : nat_lt (length input) 4 ≡ true = grind (arith, nat_tests) in
    let little : nat_le 4 (length input) ≡ false = grind (arith, nat_tests) in
    rw (short, little) refl

-- a text of which nothing was read
pub recording_behind-whole : (most : ℕ) (lines : ℕ) (text : List ℕ) → lines ≡ 0
    → unfinished.recording_behind most [] lines (text ++ []) ≡ recording_text.recording_of_lines most 1 0 (lines_spec.lines_of text)
recording_behind-whole most lines text first = rw (append-nil text, first) (recording_behind-start most text)

-- a line that ends within what is left of a text, whatever comes later
pub line_within : (text later line : List ℕ) (from end : ℕ) → position lines_spec.is_line_feed (drop from text) ≡ Some end → line ≡ strip_carriage_return (take end (drop from text))
    → lines_spec.lines_of (drop from text ++ later) ≡ line ∷ lines_spec.lines_of (drop (from + (end + 1)) text ++ later)
line_within text later line from end found is =
    rw is (lines_of-append (drop from text) later end found
    ∙ ap (λ (left : List ℕ). strip_carriage_return (take end (drop from text)) ∷ lines_spec.lines_of (left ++ later)) (drop-drop (end + 1) from text))

-- all lines of a text were read
pub all_lines : (most : ℕ) (done : List (List ℕ)) (old : LineReader) (text whole : List ℕ) (Told : List course.DatagramValue → Type 0) (read : Result Unit RecFault)
    → unfinished.recording_behind most done old.lines text ≡ recording_text.recording_of_lines most 1 0 (lines_spec.lines_of whole)
    → MatchResult read (λ _. unfinished.IsReadWhole most done old text Told) (outcomes.IsFaultOf (unfinished.recording_behind most done old.lines text))
    → MatchResult read
    (λ _. (all : List (List ℕ)) × (recording_text.recording_of_lines most 1 0 (lines_spec.lines_of whole) ≡ Ok all) × Told (recording_text.untimed all))
    (outcomes.IsFaultOf (recording_text.recording_of_lines most 1 0 (lines_spec.lines_of whole)))
all_lines most done old text whole Told (Ok u) same is = (is.all, sym same ∙ is.stands, is.told)
all_lines most done old text whole Told (Err fault) same faulty = subst (λ (defined : Result (List (List ℕ)) RecFault). outcomes.IsFaultOf defined fault) same faulty
