-- What an end is called in a text: by its title, its process and its address, and always by its GUID. own: people know nodes and processes, and
-- a GUID tells two ends apart. What is not known is left out.
use Rattle.std.specs.Prelude.{ℕ, ◌++◌, ◌||◌, Bool, true, false, if◌then◌else◌, List, [], ◌∷◌, Option, Some, None, codes, decimal, is_some, nat_eq}
use Rattle.std.specs.List.{ends_with, flat_map}
use Rattle.rtps_ids.specs.declared.identity.Guid.{Guid}
use Rattle.rtps_parts.specs.Names as names
use Rattle.rtps_policies.specs.AddressText as address_text
use Rattle.rtps_policies.specs.declared.host.Address.{Address}
use Rattle.rtps_who.specs.Naming as naming
use Rattle.rtps_who.specs.Samples as samples
use Rattle.rtps_report.specs.Ends as ends
use Rattle.rtps_lines.specs.Lines as lines

-- the full name of a node: a slash between its namespace and its name, unless the namespace ends with one
unfoldable pub node_text : samples.NodeValue → List ℕ
node_text node = flat_map names.octet_text node.namespace ++ ((if ends_with nat_eq node.namespace (codes "/") then [] else codes "/") ++ flat_map names.octet_text node.name)

-- a title, and a space; nothing where there is none
unfoldable pub title_text : naming.TitleValue → List ℕ
title_text (naming.TitleValue.OfNode node) = node_text node ++ codes " "
title_text (naming.TitleValue.OfProgram program) = flat_map names.octet_text program ++ codes " "
title_text (naming.TitleValue.OfName name) = flat_map names.octet_text name ++ codes " "
title_text naming.TitleValue.Untitled = []

-- a process and its host; nothing where neither is known
unfoldable pub process_text : Option ℕ → Option (List ℕ) → List ℕ
process_text (Some pid) (Some host) = codes "pid " ++ (decimal pid ++ (codes " on " ++ flat_map names.octet_text host))
process_text (Some pid) None = codes "pid " ++ decimal pid
process_text None (Some host) = codes "on " ++ flat_map names.octet_text host
process_text None None = []

-- a process or its host is known
abbrev pub is_placed : Option ℕ → Option (List ℕ) → Bool
is_placed pid host = is_some pid || is_some host

-- where an end is, between brackets, and a space; nothing where that is not known
unfoldable pub where_text : Bool → List ℕ → Option Address → List ℕ
where_text true process (Some address) = codes "(" ++ (process ++ (codes ", " ++ (address_text.address_text address ++ codes ") ")))
where_text true process None = codes "(" ++ (process ++ codes ") ")
where_text false process (Some address) = codes "(" ++ (address_text.address_text address ++ codes ") ")
where_text false process None = []

-- a title is one
abbrev pub is_titled : naming.TitleValue → Bool
is_titled naming.TitleValue.Untitled = false
is_titled title = true

-- more than an address is known
abbrev pub is_named : ends.EndValue → Bool
is_named end = is_titled (naming.title_by end.node end.process) || is_placed end.process.pid end.process.host

-- an end of which more is known
abbrev pub named_text : Guid → ends.EndValue → List ℕ
named_text guid end =
    title_text (naming.title_by end.node end.process)
    ++ (where_text (is_placed end.process.pid end.process.host) (process_text end.process.pid end.process.host) end.address ++ names.guid_text guid)

-- an end
abbrev pub end_text : Guid → ends.EndValue → List ℕ
end_text guid end = if is_named end then named_text guid end else lines.hosted_text guid end.address

-- an end in the line of a pair: where no more is known, by its GUID alone
abbrev pub paired_text : Guid → ends.EndValue → List ℕ
paired_text guid end = if is_named end then named_text guid end else names.guid_text guid
