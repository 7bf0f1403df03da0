use Rattle.std.proofs.Common.{◌≡◌, Bool, true, cond, List, [], ℕ, Option, Some, None, refl, sym, ap, ◌∙◌, subst}
use Rattle.std.specs.Option.{IsSome}
use Rattle.std.specs.Str.{is_utf8}
use Rattle.std.proofs.lemmas.Str.{IsUtf8-nil, is_utf8-from_IsUtf8}
use Rattle.tab_lines.specs.Fields.{only_if}
use Rattle.tab_shell.proofs.file_lines.taken.Goals as goal

-- no bytes are UTF-8
pub unwrap-none-requires : goal.unwrap-none-requires
unwrap-none-requires c =
    let none : List ℕ = [] in
    let fits : is_utf8 [] ≡ true = is_utf8-from_IsUtf8 [] IsUtf8-nil in
    let named : c.new-2.result ≡ Some none = c.new-2.ensures ∙ ap (only_if is_utf8) c.new.ensures.items ∙ ap (λ (b : Bool). cond b (Some none) None) fits in
    subst (λ (o : Option (List ℕ)). IsSome o) (sym named) refl
