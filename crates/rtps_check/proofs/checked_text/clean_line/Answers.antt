use Rattle.rtps_check.proofs.checked_text.clean_line.Goals as goal

pub returns : goal.returns
returns c = cc (c.from.ensures, c.from-pairs.ensures, c.words_for.ensures, c.words_for-2.ensures)
