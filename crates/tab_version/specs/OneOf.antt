-- For proofs. What is read of a source that is of one of two kinds.
use Rattle.tab_version.specs.declared.one_of.OneOf.{OneOf}
use Rattle.tab_version.specs.declared.one_of.OneOf.TheVariants.{First, Second}

-- f of one of the first kind, g of one of the second
abbrev pub one_of : {A B X : Type 0} → (A → X) → (B → X) → OneOf A B → X
one_of f g (First a) = f a
one_of f g (Second b) = g b

-- what holds of each kind holds
pub by_kind : {A B : Type 0} (P : OneOf A B → Type 0) → ((a : A) → P (First a)) → ((b : B) → P (Second b)) → (s : OneOf A B) → P s
by_kind P f g (First a) = f a
by_kind P f g (Second b) = g b
