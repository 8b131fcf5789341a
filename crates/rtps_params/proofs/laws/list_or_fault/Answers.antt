use Rattle.rtps_params.proofs.Agreement as agreement
use Rattle.rtps_params.proofs.laws.list_or_fault.Goals as goal

pub returns : goal.returns
returns c = record { some = agreement.list_or_fault; not_both = agreement.not_both; one_fault = agreement.one_fault }
