-- Texts, put one after another where one that is not the first fails, and sets, put member by member.
use Rattle.std.proofs.Common.{◌≡◌, ℕ, List, [], ◌∷◌, ◌++◌, refl, ap}
use Rattle.std.specs.Prelude.{Vec}
use Rattle.std.specs.List.{flat_map}
use Rattle.std.specs.declared.alloc.Global.{Global}
use Rattle.tab_io.specs.Writing.{HasPut, HasPutPart}
use Rattle.tab_io.specs.declared.writing.Output.{Ghosts}
use Rattle.tab_io.proofs.Putting.{put_part_more, part_longer}
use Rattle.tab_label.specs.Sets.{byte_lists}
use Rattle.tab_image.specs.Spelling.{field}

-- the texts of vectors are those of their bytes
pub each_field : (vs : List (Vec ℕ Global)) → flat_map (λ (v : Vec ℕ Global). field v.items) vs ≡ flat_map field (byte_lists vs)
each_field [] = refl
each_field (v ∷ vs) = ap (λ (z : List ℕ). field v.items ++ z) (each_field vs)

module _ {W : Type 0} (g : Ghosts W) where
  -- the second of several texts fails, the third, the fourth
  pub second_fails : (a b c : W) (t u more : List ℕ) → HasPut g a b t → HasPutPart g b c u → HasPutPart g a c (t ++ (u ++ more))
  second_fails a b c t u more p q = put_part_more p (part_longer more q)

  pub third_fails : (a b c d : W) (t u v more : List ℕ) → HasPut g a b t → HasPut g b c u → HasPutPart g c d v → HasPutPart g a d (t ++ (u ++ (v ++ more)))
  third_fails a b c d t u v more p q r = put_part_more p (second_fails b c d u v more q r)

  pub fourth_fails : (a b c d e : W) (t u v w more : List ℕ) → HasPut g a b t → HasPut g b c u → HasPut g c d v → HasPutPart g d e w → HasPutPart g a e (t ++ (u ++ (v ++ (w ++ more))))
  fourth_fails a b c d e t u v w more p q r s = put_part_more p (third_fails b c d e u v w more q r s)

-- what closes the clauses of a function that puts more than two texts
pub ruleset failing = (second_fails, third_fails, fourth_fails)
