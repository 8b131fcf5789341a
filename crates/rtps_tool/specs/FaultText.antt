-- What is told of a fault, and its number. own: one line on standard error, the same for the same fault; both stay, since
-- reports and programs name faults by them.
use Rattle.std.specs.Prelude.{ℕ, List, [], ◌∷◌, ◌++◌, codes, Option, None, Some}
use Rattle.std.specs.Fmt.{decimal}
use Rattle.std.specs.List.{flat_map}
use Rattle.rtps_parts.specs.Names as names
use Rattle.rtps_tool.specs.declared.command.WordFault.{WordFault}
use Rattle.rtps_tool.specs.declared.faults.RecFault.{RecFault}
use Rattle.rtps_tool.specs.declared.faults.RunFault.{RunFault}

-- why a file is no recording; `too many datagrams` stands for too many octets of the input too
unfoldable pub rec_fault_text : RecFault → List ℕ
rec_fault_text (RecFault.BadHex line) = codes "line " ++ (decimal line ++ codes ": bad hex")
rec_fault_text (RecFault.TooLong line) = codes "line " ++ (decimal line ++ codes ": too long")
rec_fault_text RecFault.TooMany = codes "too many datagrams"
rec_fault_text RecFault.Memory = codes "out of memory"
rec_fault_text RecFault.BadCapture = codes "bad capture"
rec_fault_text (RecFault.CutCapture frame) = codes "frame " ++ (decimal frame ++ codes ": cut")
rec_fault_text (RecFault.Damaged frame) = codes "bad capture"

-- why a run failed
unfoldable pub run_fault_text : RunFault → List ℕ
run_fault_text (RunFault.Recording fault) = rec_fault_text fault
run_fault_text RunFault.Input = codes "cannot read input"
run_fault_text (RunFault.Output written) = codes "cannot write output"
run_fault_text RunFault.Memory = codes "out of memory"
run_fault_text RunFault.Changed = codes "the file changed while it was read"

-- from 1 on: first those of texts, and then those of captures; a damaged one is a bad one
abbrev pub rec_fault_number : RecFault → ℕ
rec_fault_number (RecFault.BadHex line) = 1
rec_fault_number (RecFault.TooLong line) = 2
rec_fault_number RecFault.TooMany = 3
rec_fault_number RecFault.Memory = 4
rec_fault_number RecFault.BadCapture = 5
rec_fault_number (RecFault.CutCapture frame) = 6
rec_fault_number (RecFault.Damaged frame) = 5

-- from 1 on: first in the order in which a run can meet them, then want of memory, and that a file changed
abbrev pub run_fault_number : RunFault → ℕ
run_fault_number (RunFault.Recording fault) = 1
run_fault_number RunFault.Input = 2
run_fault_number (RunFault.Output written) = 3
run_fault_number RunFault.Memory = 4
run_fault_number RunFault.Changed = 5

-- the line of a fault, with LF (10)
abbrev pub fault_line : RunFault → List ℕ
fault_line fault = codes "rtps-audit: " ++ (run_fault_text fault ++ 10 ∷ [])

-- the line of a fault of the other recording, which has its name, as `list` writes one between quotes
abbrev pub other_fault_line : (name : List ℕ) → RunFault → List ℕ
other_fault_line name fault = codes "rtps-audit: " ++ (flat_map names.octet_text name ++ (codes ": " ++ (run_fault_text fault ++ 10 ∷ [])))

-- Where there was no memory for the words, or both recordings are standard input, this is told. What `clap` answers has the text that
-- `clap` gives it, of which no clause of `clap` speaks; the other text is as those are.
abbrev pub word_fault_text : WordFault → Option (List ℕ)
word_fault_text (WordFault.Refused error) = None
word_fault_text (WordFault.Help error) = None
word_fault_text (WordFault.Version error) = None
word_fault_text WordFault.BothInput = Some (codes "error: the argument '--arrived <OTHER>' cannot be standard input: FILE is\n\nFor more information, try '--help'.")
word_fault_text WordFault.Memory = Some (codes "out of memory")
