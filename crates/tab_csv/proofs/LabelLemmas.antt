-- Labels, read under no authorization.
use Rattle.std.proofs.Common.{ℕ, ◌≡◌, List, refl, sym, ap, ◌∙◌}
use Rattle.std.specs.Prelude.{Bool, Result, Ok, Err}
use Rattle.tab_label.specs.Holding.{judged, read_judged}
use Rattle.tab_label.specs.Reading.{label_of}
use Rattle.tab_csv.specs.Meaning.{no_label}

pub judged_says : (text : List ℕ) (auths : List (List ℕ)) (r : Result Bool ℕ) → r ≡ judged text auths → no_label r ≡ no_label (label_of text)
judged_says text auths r is =
    ap no_label is ∙ elim (label_of text) as (λ l. no_label (read_judged l auths) ≡ no_label l) [
      | Ok label ↦ refl
      | Err offset ↦ refl
    ]
