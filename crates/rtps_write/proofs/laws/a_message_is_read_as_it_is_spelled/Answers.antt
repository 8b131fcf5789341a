use Rattle.rtps_write.proofs.SpelledMessages.{read_spelled}
use Rattle.rtps_write.proofs.SpelledReads.{spelled_read}
use Rattle.rtps_write.proofs.laws.a_message_is_read_as_it_is_spelled.Goals as goal

pub returns-clause-spelled : goal.returns-clause-spelled
returns-clause-spelled c = read_spelled

pub returns-clause-read : goal.returns-clause-read
returns-clause-read c = spelled_read
