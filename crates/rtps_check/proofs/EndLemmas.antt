-- An end that is told by what is known of it.
use Rattle.std.proofs.Common.{◌≡◌, ◌++◌, List, ℕ, ap₂, codes}
use Rattle.rtps_ids.specs.declared.identity.Guid.{Guid}
use Rattle.rtps_report.specs.Ends as ends_spec
use Rattle.rtps_lines.specs.EndText as end_text
use Rattle.rtps_check.specs.TalkText as talk_text

pub end_is : (ends : Guid → ends_spec.EndValue) (guid told : Guid) (known : ends_spec.EndValue) → told ≡ guid → known ≡ ends guid → end_text.end_text told known ≡ talk_text.ended ends guid
end_is ends guid told known same is = ap₂ end_text.end_text same is

-- the lines of a writer and a reader
abbrev pub two_told : List ℕ → List ℕ → List ℕ
two_told writer reader = codes "  writer " ++ (writer ++ (codes "\n  reader " ++ (reader ++ codes "\n")))

pub two_are : (ends : Guid → ends_spec.EndValue) (writer reader one other : Guid) (first second : ends_spec.EndValue) → one ≡ writer → first ≡ ends writer → other ≡ reader → second ≡ ends reader
    → two_told (end_text.end_text one first) (end_text.end_text other second) ≡ two_told (talk_text.ended ends writer) (talk_text.ended ends reader)
two_are ends writer reader one other first second same is also at = ap₂ two_told (end_is ends writer one first same is) (end_is ends reader other second also at)
