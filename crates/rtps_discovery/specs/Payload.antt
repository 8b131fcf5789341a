-- The parameters of a payload, by the grammar of lists. DDSI-RTPS 2.5, 10 "Serialized Payload Representation" and
-- 9.4.2.11 "ParameterList".
use Rattle.std.specs.Prelude.{ℕ, ◌≡◌, ◌<◌, List, ◌++◌, length}
use Rattle.rtps_ids.specs.declared.order.Order.{Order}
use Rattle.rtps_params.specs.Grammar as grammar
use Rattle.rtps_discovery.specs.Announcement as announcement
use Rattle.rtps_discovery.specs.declared.fault.NoticeFault.{NoticeFault}
use Rattle.rtps_discovery.specs.declared.layout.representation.TheConstants as representation

-- the id of parameter lists in this order
abbrev pub id_in : Order → List ℕ
id_in Order.Big = representation.PL_CDR_BE
id_in Order.Little = representation.PL_CDR_LE

-- octets that are the representation of parameter lists in this order: its id, and options, which are ignored
pub record NamesOrder (order : Order) (octets : List ℕ) : Type 0 where
  pub options : List ℕ
  pub size : length octets ≡ representation.SIZE
  pub whole : octets ≡ id_in order ++ options

-- a payload that is a representation, a list in the order that it names, and a rest; these are the list's order and pairs
pub record HoldsFields (payload : List ℕ) (fields : announcement.Fields) : Type 0 where
  pub front : List ℕ
  pub list : List ℕ
  pub rest : List ℕ
  pub whole : payload ≡ front ++ (list ++ rest)
  pub names_order : NamesOrder fields.order front
  pub is_list : grammar.IsList fields.order fields.pairs list

-- a payload whose first four octets are the representation of parameter lists in no order
pub record NamesNone (payload : List ℕ) : Type 0 where
  pub front : List ℕ
  pub behind : List ℕ
  pub whole : payload ≡ front ++ behind
  pub size : length front ≡ representation.SIZE
  pub names_none : (order : Order) → ¬ NamesOrder order front

-- a payload that is a representation and octets that begin with no list in the order that it names
pub record ListsNothing (payload : List ℕ) : Type 0 where
  pub order : Order
  pub front : List ℕ
  pub behind : List ℕ
  pub whole : payload ≡ front ++ behind
  pub names_order : NamesOrder order front
  pub no_list : ¬ grammar.BeginsWithList order behind

-- a payload that holds no list, and the fault that says why
abbrev pub LacksList : NoticeFault → List ℕ → Type 0
LacksList NoticeFault.CutRepresentation payload = length payload < representation.SIZE
LacksList NoticeFault.Representation payload = NamesNone payload
LacksList NoticeFault.List payload = ListsNothing payload
LacksList _ payload = ⊥
