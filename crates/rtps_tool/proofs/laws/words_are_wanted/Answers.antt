use Rattle.std.proofs.Common.{refl}
use Rattle.clap.proofs.OnLiterals.{clap_on_literals}
use Rattle.rtps_tool.proofs.laws.words_are_wanted.Goals as goal

pub returns : goal.returns
unfolding clap_on_literals
returns c = record { no_subcommand = refl; no_file_to_check = refl; whole_check = refl; topic_of_check = refl; json_of_check = refl; fragments_of_check = refl; no_file_to_show = refl; no_file_to_list = refl; no_file_to_audit = refl; no_file_to_explain = refl; no_file_to_page = refl; page = refl; json_of_page = refl; help = refl; version = refl; whole = refl; sample = refl; no_file_of_sample = refl; least = refl; greatest = refl; none = refl; too_great = refl; no_number = refl; from_of_why = refl; none_of_why = refl; from_of_show = refl; from_of_list = refl; least_limits = refl; greatest_datagrams = refl; greatest_octets = refl; no_datagrams = refl; no_octets = refl; too_many_datagrams = refl; too_many_octets = refl; no_octets_of_why = refl; json = refl; json_is_asked = refl; no_json_is_asked = refl; json_of_show = refl; json_of_list = refl; json_of_why = refl; any_to_show = refl; any_to_list = refl; any_to_audit = refl; any_of_why = refl; any_is_asked = refl; no_any_is_asked = refl; fragments_to_show = refl; fragments_to_audit = refl; fragments_to_list = refl; fragments_are_asked = refl; no_fragments_are_asked = refl; node_of_audit = refl; nodes = refl; topic_of_audit = refl; topics = refl; topic_of_show = refl; observed_of_why = refl; least_expected = refl; too_many_expected = refl; no_number_expected = refl; expect_of_audit = refl; strict_of_audit = refl; any_of_sample = refl; limit_of_sample = refl; spans_of_audit = refl; spans_of_page = refl; tail = refl; no_number_of_a_tail = refl; arrived = refl; arrived_is_named = refl; arrived_of_page = refl; arrived_of_audit = refl; arrived_of_why = refl; tail_of_audit = refl; certain_of_why = refl }
