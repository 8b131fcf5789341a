-- What is asked of a report, and of an audit. own: a job asks for the rows that it knows, and must not pass where the report says less than
-- it takes it to say.
use Rattle.std.specs.Prelude.{ℕ, Bool, false, true, List, map, Option}
use Rattle.std.specs.String.{string_bytes}
use Rattle.rtps_fragments.specs.declared.fragments.Fragments.{Fragments}
use Rattle.rtps_report.specs.declared.asked.Asked.{Asked}
use Rattle.rtps_report.specs.declared.audited.AskedAudit.{AskedAudit}

-- what is asked of a report, with lists of octets where the type borrows texts
pub record AskedValue : Type 0 where
  pub from : ℕ
  pub topics : List (List ℕ)
  pub nodes : List (List ℕ)
  pub expect : Option ℕ
  pub tail : ℕ
  pub certain : Bool

-- what the code asks, as a value
abbrev pub asked_value : Asked → AskedValue
asked_value asked =
    record {
      from = asked.from;
      topics = map string_bytes asked.topics.now;
      nodes = map string_bytes asked.nodes.now;
      expect = asked.expect;
      tail = asked.tail;
      certain = asked.certain;
    }

-- samples that come in fragments are read
abbrev pub are_read : Fragments → Bool
are_read Fragments.Skipped = false
are_read Fragments.Read = true

-- an audit by the numbers from this one on, of which fragments are skipped
abbrev pub plainly : ℕ → AskedAudit
plainly from = record { from = from; fragments = Fragments.Skipped }
