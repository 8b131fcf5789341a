use Rattle.std.proofs.Common.{◌≡◌, ◌++◌, ◌∙◌, [], IsUtf8, ap, ap₂, List, ℕ, refl, subst, sym}
use Rattle.std.proofs.lemmas.Str.{IsUtf8-append}
use Rattle.json.proofs.Printed.Utf8.{IsUtf8-are_ascii}
use Rattle.rtps_page.specs.SafeText as safe_text
use Rattle.rtps_page.specs.declared.page_parts.TheConstants as page_parts
use Rattle.rtps_page.proofs.SafeLemmas.{Each, safe_is_utf8}
use Rattle.rtps_page.proofs.Written.{five_parts}
use Rattle.rtps_page.proofs.page.joined.Goals as goal

-- each escape is ASCII
html_is_utf8 : Each IsUtf8 safe_text.in_html
html_is_utf8 = record { of_ampersand = IsUtf8-are_ascii (safe_text.in_html 38) refl; of_less = IsUtf8-are_ascii (safe_text.in_html 60) refl; of_greater = IsUtf8-are_ascii (safe_text.in_html 62) refl }

json_is_utf8 : Each IsUtf8 safe_text.in_json
json_is_utf8 = record { of_ampersand = IsUtf8-are_ascii (safe_text.in_json 38) refl; of_less = IsUtf8-are_ascii (safe_text.in_json 60) refl; of_greater = IsUtf8-are_ascii (safe_text.in_json 62) refl }

pub returns : goal.returns
returns c =
    let plain = safe_text.safe_text safe_text.in_html c.args.plain.now in
    let object = safe_text.safe_text safe_text.in_json c.args.object.now in
    let text : c.extend_from_slice-3.new.self.items ≡ page_parts.HEAD.now ++ (plain ++ (page_parts.MIDDLE.now ++ (object ++ page_parts.TAIL.now))) =
    five_parts [] page_parts.HEAD.now plain page_parts.MIDDLE.now object page_parts.TAIL.now
    (c.in_ok-extend_from_slice.ensures.items ∙ ap₂ (λ (x y : List ℕ). x ++ y) c.in_ok-page.ensures.items c.as_bytes.ensures.value)
    (c.in_ok-push_safe.ensures ∙ ap (λ (l : List ℕ). c.extend_from_slice.new.self.items ++ safe_text.safe_text safe_text.in_html l) c.as_bytes-2.ensures.value)
    (c.in_ok-extend_from_slice-2.ensures.items ∙ ap (λ l. c.push_safe.new.out.items ++ l) c.as_bytes-3.ensures.value) c.in_ok-push_safe-2.ensures
    (c.in_ok-extend_from_slice-3.ensures.items ∙ ap (λ l. c.push_safe-2.new.out.items ++ l) c.as_bytes-4.ensures.value) in
    let head : IsUtf8 page_parts.HEAD.now = subst IsUtf8 c.as_bytes.ensures.value c.as_bytes.ensures.utf8 in
    let lines : IsUtf8 c.args.plain.now = subst IsUtf8 c.as_bytes-2.ensures.value c.as_bytes-2.ensures.utf8 in
    let middle : IsUtf8 page_parts.MIDDLE.now = subst IsUtf8 c.as_bytes-3.ensures.value c.as_bytes-3.ensures.utf8 in
    let tail : IsUtf8 page_parts.TAIL.now = subst IsUtf8 c.as_bytes-4.ensures.value c.as_bytes-4.ensures.utf8 in
    let plain_is = safe_is_utf8 safe_text.in_html c.args.plain.now html_is_utf8 lines in
    let object_is = safe_is_utf8 safe_text.in_json c.args.object.now json_is_utf8 c.requires in
    record {
      utf8 = subst IsUtf8 (sym text)
          (IsUtf8-append page_parts.HEAD.now (plain ++ (page_parts.MIDDLE.now ++ (object ++ page_parts.TAIL.now))) head
          (IsUtf8-append plain (page_parts.MIDDLE.now ++ (object ++ page_parts.TAIL.now)) plain_is (IsUtf8-append page_parts.MIDDLE.now (object ++ page_parts.TAIL.now) middle (IsUtf8-append object page_parts.TAIL.now object_is tail))));
      text = text;
    }
