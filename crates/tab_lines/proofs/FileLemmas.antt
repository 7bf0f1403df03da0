-- Bytes that are made text are exactly those that are UTF-8.
use Rattle.std.proofs.Common.{ℕ, ◌≡◌, true, false, cond, List, refl, sym, ap, ◌∙◌, subst, Some, None}
use Rattle.std.specs.Prelude.{Result, Ok, Err, IfOk, IsOk}
use Rattle.std.specs.Option.{option_map}
use Rattle.std.specs.Result.{result_ok}
use Rattle.std.specs.Str.{IsUtf8, is_utf8}
use Rattle.std.proofs.lemmas.Str.{IsUtf8-from_is_utf8, is_utf8-from_IsUtf8}
use Rattle.tab_lines.specs.Fields.{only_if}

-- what is made of some bytes where they are UTF-8, and reads as they do, is there exactly then
pub text_read : {T E V : Type 0} (vec : T → V) (items : V → List ℕ) (v : V) (r : Result T E) → ((t : T) → IsUtf8 (items (vec t))) → IfOk r (λ t. vec t ≡ v) → (IsUtf8 (items v) → IsOk r)
    → option_map (λ t. items (vec t)) (result_ok r) ≡ only_if is_utf8 (items v)
text_read vec items v (Ok t) text same there =
    ap (λ x. Some (items x)) same ∙ sym (ap (λ b. cond b (Some (items v)) None) (is_utf8-from_IsUtf8 (items v) (subst (λ x. IsUtf8 (items x)) same (text t))))
text_read vec items v (Err e) text same there =
    elim (is_utf8 (items v)) as (λ b. is_utf8 (items v) ≡ b → None ≡ cond b (Some (items v)) None) [
      | true ↦ λ yes. let no : false ≡ true = there (IsUtf8-from_is_utf8 (items v) yes) in absurd cc
      | false ↦ λ no. refl
    ] refl
