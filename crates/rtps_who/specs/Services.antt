-- Nodes by the topics of their parameter services. own: each node of ROS 2 has a service by which its parameters are asked for. It has a reader
-- of `rq/NODE/get_parametersRequest` and a writer of `rr/NODE/get_parametersReply`.
use Rattle.std.specs.Prelude.{ℕ, ◌≡◌, ◌≢◌, ◌↔◌, ◌+◌, ◌-◌, ◌&&◌, Bool, if◌then◌else◌, List, [], All, Option, Some, None, codes, drop, fold, length, nat_eq, nat_lt, take}
use Rattle.std.specs.Cmp.Lexicographic.{pointwise}
use Rattle.std.specs.List.{ends_with, starts_with}
use Rattle.rtps_discovery.specs.Endpoint as endpoint
use Rattle.rtps_discovery.specs.declared.endpoint.Side.{Side}
use Rattle.rtps_who.specs.Samples as samples
use Rattle.rtps_who.specs.declared.service.Service.{Service}

-- a topic begins with three octets, ends so, and has something between
abbrev pub is_between : (begins ends topic : List ℕ) → Bool
is_between begins ends topic = nat_lt (3 + length ends) (length topic) && (starts_with nat_eq topic begins && ends_with nat_eq topic ends)

-- what it has between
abbrev pub between : (begins ends topic : List ℕ) → Option (List ℕ)
between begins ends topic = if is_between begins ends topic then Some (take (length topic - length ends - 3) (drop 3 topic)) else None

-- the node whose service has a topic
abbrev pub asked_in : Side → List ℕ → Option (List ℕ)
asked_in Side.Reader topic = between (codes "rq/") (codes "/get_parametersRequest") topic
asked_in Side.Writer topic = between (codes "rr/") (codes "/get_parametersReply") topic

-- the node whose service an endpoint is of
abbrev pub service_of : endpoint.EndpointValue → Option (List ℕ)
service_of endpoint = asked_in endpoint.side endpoint.topic

-- the names by the services of a participant: one, or several
pub data NamesValue : Type 0 where
  OneName : (name : List ℕ) → NamesValue
  SeveralNames : NamesValue

-- what those of the code stand for
abbrev pub service_value : Service → NamesValue
service_value (Service.One name) = OneName name.now
service_value Service.Several = SeveralNames

-- with one name more
abbrev pub with_name : Option NamesValue → List ℕ → Option NamesValue
with_name None name = Some (OneName name)
with_name (Some (OneName one)) name = if pointwise nat_eq one name then Some (OneName one) else Some SeveralNames
with_name (Some SeveralNames) name = Some SeveralNames

-- what names come to
abbrev pub names_of : List (List ℕ) → Option NamesValue
names_of names = fold with_name None names

-- the node of one name
abbrev pub node_by : Option NamesValue → Option samples.NodeValue
node_by (Some (OneName name)) = Some (record { namespace = codes "/"; name = name })
node_by _ = None

-- names come to one exactly where there is one at least, and all are it
abbrev pub NamesComeToOne : Type 0
NamesComeToOne = (names : List (List ℕ)) (name : List ℕ) → (names_of names ≡ Some (OneName name)) ↔ ((names ≢ []) × All (λ one. one ≡ name) names)
