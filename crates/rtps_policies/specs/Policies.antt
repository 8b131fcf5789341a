-- The policies of an endpoint, by the parameters that announce it. DDS 1.4, 2.2.3 "Supported QoS" (what they are where none is
-- announced), DDSI-RTPS 2.5, 9.6.3, and XTypes 1.3, 7.6.3.1.1 (their parameters). own: a parameter that cannot be read is as if
-- absent.
use Rattle.std.specs.Prelude.{ℕ, pos, false, List, [], ◌∷◌, Option, option_and_then, unwrap_or}
use Rattle.rtps_discovery.specs.Announcement as announcement
use Rattle.rtps_policies.specs.Durations as durations
use Rattle.rtps_policies.specs.Kinds as kinds
use Rattle.rtps_policies.specs.Sequences as sequences
use Rattle.rtps_policies.specs.Views as views
use Rattle.rtps_policies.specs.declared.duration.Duration.{Duration}
use Rattle.rtps_policies.specs.declared.kinds.DestinationOrder.{DestinationOrder}
use Rattle.rtps_policies.specs.declared.kinds.Ownership.{Ownership}
use Rattle.rtps_policies.specs.declared.layout.pid.TheConstants as pid
use Rattle.rtps_policies.specs.declared.liveliness.Liveliness.{Liveliness}
use Rattle.rtps_policies.specs.declared.liveliness.LivelinessKind.{LivelinessKind}
use Rattle.rtps_policies.specs.declared.policies.Policies.{Policies}
use Rattle.rtps_policies.specs.declared.presentation.AccessScope.{AccessScope}
use Rattle.rtps_policies.specs.declared.presentation.Presentation.{Presentation}

-- the policies of an endpoint
pub record PoliciesValue : Type 0 where
  pub deadline : Duration
  pub latency_budget : Duration
  pub liveliness : Liveliness
  pub ownership : Ownership
  pub destination_order : DestinationOrder
  pub presentation : Presentation
  pub partition : List (List ℕ)
  pub representations : List ℕ

-- what policies of the code stand for
abbrev pub policies_value : Policies → PoliciesValue
policies_value policies =
    record {
      deadline = policies.deadline;
      latency_budget = policies.latency_budget;
      liveliness = policies.liveliness;
      ownership = policies.ownership;
      destination_order = policies.destination_order;
      presentation = policies.presentation;
      partition = views.partition_value policies.partition;
      representations = views.representations_value policies.representations;
    }

-- DURATION_INFINITE (DDSI-RTPS 2.5, 9.3.2)
abbrev pub infinite : Duration
infinite = record { seconds = pos 0x7fffffff; fraction = 0xffffffff }

-- DURATION_ZERO
abbrev pub no_time : Duration
no_time = record { seconds = pos 0; fraction = 0 }

-- the policies of an endpoint that announces none: no deadline, no latency budget, alive by itself without a lease, shared
-- ownership, order of reception, presentation instance by instance, the partition without a name, no representation (which is XCDR1)
abbrev pub unannounced : PoliciesValue
unannounced =
    record {
      deadline = infinite;
      latency_budget = no_time;
      liveliness = record { kind = LivelinessKind.Automatic; lease = infinite };
      ownership = Ownership.Shared;
      destination_order = DestinationOrder.ByReception;
      presentation = record { scope = AccessScope.Instance; coherent = false; ordered = false };
      partition = [] ∷ [];
      representations = [];
    }

-- what the value of a parameter says, or the default
abbrev pub said_or : {X : Type 0} → X → (List ℕ → Option X) → Option (List ℕ) → X
said_or default read value = unwrap_or (option_and_then read value) default

-- what parameters announce of the deadline
abbrev pub deadline_in : announcement.Fields → Duration
deadline_in fields = said_or unannounced.deadline (λ value. durations.duration_at fields.order value 0) (announcement.field pid.DEADLINE fields)

-- what they announce of the latency budget
abbrev pub latency_budget_in : announcement.Fields → Duration
latency_budget_in fields = said_or unannounced.latency_budget (λ value. durations.duration_at fields.order value 0) (announcement.field pid.LATENCY_BUDGET fields)

-- what they announce of liveliness
abbrev pub liveliness_in : announcement.Fields → Liveliness
liveliness_in fields = said_or unannounced.liveliness (kinds.liveliness_of fields.order) (announcement.field pid.LIVELINESS fields)

-- what they announce of ownership
abbrev pub ownership_in : announcement.Fields → Ownership
ownership_in fields = said_or unannounced.ownership (kinds.ownership_of fields.order) (announcement.field pid.OWNERSHIP fields)

-- what they announce of the destination order
abbrev pub destination_order_in : announcement.Fields → DestinationOrder
destination_order_in fields = said_or unannounced.destination_order (kinds.destination_order_of fields.order) (announcement.field pid.DESTINATION_ORDER fields)

-- what they announce of presentation
abbrev pub presentation_in : announcement.Fields → Presentation
presentation_in fields = said_or unannounced.presentation (kinds.presentation_of fields.order) (announcement.field pid.PRESENTATION fields)

-- the names of partitions that they announce
abbrev pub partition_in : announcement.Fields → List (List ℕ)
partition_in fields = said_or unannounced.partition (sequences.partition_of fields.order) (announcement.field pid.PARTITION fields)

-- the ids of representations that they announce
abbrev pub representations_in : announcement.Fields → List ℕ
representations_in fields = said_or unannounced.representations (sequences.representations_of fields.order) (announcement.field pid.DATA_REPRESENTATION fields)

-- the policies that parameters announce
abbrev pub policies_in : announcement.Fields → PoliciesValue
policies_in fields =
    record {
      deadline = deadline_in fields;
      latency_budget = latency_budget_in fields;
      liveliness = liveliness_in fields;
      ownership = ownership_in fields;
      destination_order = destination_order_in fields;
      presentation = presentation_in fields;
      partition = partition_in fields;
      representations = representations_in fields;
    }
