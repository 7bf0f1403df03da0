-- Parts read one after another, as a loop reads them.
use Rattle.std.proofs.Common.{◌≡◌, ℕ, zero, suc, ◌+◌, ◌<◌, List, [], ◌∷◌, ◌++◌, refl, sym, ap, subst, ◌∙◌, arith, Option, Some, None}
use Rattle.tab_io.specs.declared.reading.Input.{Ghosts}
use Rattle.tab_codec.specs.Reading.{◌>>=◌, Reader, parts_at}
use Rattle.tab_codec.proofs.Exact.{some_inj, bind_some, on_bind}
use Rattle.tab_image.specs.declared.unread.Unread.{Unread}
use Rattle.tab_image.specs.declared.unread.Unread.TheVariants as unread
use Rattle.tab_image.specs.Streams.{Leaves, Lacks, HasRead, Stops}
use Rattle.tab_image.proofs.Streams.{none_some, later_failed}

module _ {A : Type 0} (r : Reader A) where
  -- one more part behind those that were read
  parts_pushed : (i : ℕ) (bytes : List ℕ) (xs : List A) (mid : List ℕ) (x : A) (rest : List ℕ) → parts_at r i bytes ≡ Some (xs, mid) → r mid ≡ Some (x, rest) → parts_at r (suc i) bytes ≡ Some (xs ++ x ∷ [], rest)
  parts_pushed zero bytes xs mid x rest is h =
      let e = some_inj ([], bytes) (xs, mid) is in
      let xs_is : [] ≡ xs = ap (λ (p : List A × List ℕ). p.0) e in
      let mid_is : bytes ≡ mid = ap (λ (p : List A × List ℕ). p.1) e in
      bind_some (r bytes) (x, rest) (λ f. Some (f.0 ∷ [], f.1)) (Some (xs ++ x ∷ [], rest)) (ap r mid_is ∙ h) (ap (λ (z : List A). Some (z ++ x ∷ [], rest)) xs_is)
  parts_pushed (suc i) bytes xs mid x rest is h =
      let Goal : Type 0 = parts_at r (suc (suc i)) bytes ≡ Some (xs ++ x ∷ [], rest) in
      on_bind (r bytes) (λ f. parts_at r i f.1 >>= λ o. Some (f.0 ∷ o.0, o.1)) (xs, mid) Goal is (λ f first more.
      on_bind (parts_at r i f.1) (λ o. Some (f.0 ∷ o.0, o.1)) (xs, mid) Goal more (λ o others last.
      let e = some_inj (f.0 ∷ o.0, o.1) (xs, mid) last in
      let xs_is : f.0 ∷ o.0 ≡ xs = ap (λ (p : List A × List ℕ). p.0) e in
      let mid_is : o.1 ≡ mid = ap (λ (p : List A × List ℕ). p.1) e in
      let ih = parts_pushed i f.1 o.0 o.1 x rest others (ap r mid_is ∙ h) in
      bind_some (r bytes) f (λ y. parts_at r (suc i) y.1 >>= λ ys. Some (y.0 ∷ ys.0, ys.1)) (Some (xs ++ x ∷ [], rest)) first
      (bind_some (parts_at r (suc i) f.1) (o.0 ++ x ∷ [], rest) (λ ys. Some (f.0 ∷ ys.0, ys.1)) (Some (xs ++ x ∷ [], rest)) ih (ap (λ (z : List A). Some (z ++ x ∷ [], rest)) xs_is))))

  -- where the next part isn't there, there are too few
  parts_short : (n i : ℕ) (bytes : List ℕ) (xs : List A) (mid : List ℕ) → i < n → parts_at r i bytes ≡ Some (xs, mid) → r mid ≡ None → parts_at r n bytes ≡ None
  parts_short zero i bytes xs mid lt is h = absurd (omega (arith, lt))
  parts_short (suc n) zero bytes xs mid lt is h =
      let e = some_inj ([], bytes) (xs, mid) is in
      let mid_is : bytes ≡ mid = ap (λ (p : List A × List ℕ). p.1) e in
      let none : r bytes ≡ None = ap r mid_is ∙ h in
      rw none refl
  parts_short (suc n) (suc i) bytes xs mid lt is h =
      let Goal : Type 0 = parts_at r (suc n) bytes ≡ None in
      on_bind (r bytes) (λ f. parts_at r i f.1 >>= λ o. Some (f.0 ∷ o.0, o.1)) (xs, mid) Goal is (λ f first more.
      on_bind (parts_at r i f.1) (λ o. Some (f.0 ∷ o.0, o.1)) (xs, mid) Goal more (λ o others last.
      let mid_is : o.1 ≡ mid = ap (λ (p : List A × List ℕ). p.1) (some_inj (f.0 ∷ o.0, o.1) (xs, mid) last) in
      let ih = parts_short n i f.1 o.0 o.1 (omega (arith, lt)) others (ap r mid_is ∙ h) in
      bind_some (r bytes) f (λ y. parts_at r n y.1 >>= λ ys. Some (y.0 ∷ ys.0, ys.1)) None first (rw ih refl)))

  pushed_leaves : (i : ℕ) (a b c : Option (List ℕ)) (xs : List A) (x : A) → Leaves a b (parts_at r i) xs → Leaves b c r x → Leaves a c (parts_at r (suc i)) (xs ++ x ∷ [])
  pushed_leaves i None b c xs x p q = tt
  pushed_leaves i (Some bytes) None c xs x p q = absurd (none_some p.0 p.2)
  pushed_leaves i (Some bytes) (Some mid) c xs x p q = (q.0, parts_pushed i bytes xs p.0 x q.0 p.1 (ap r (sym (some_inj mid p.0 p.2)) ∙ q.1), q.2)

  short_lacks : (n i : ℕ) (a b : Option (List ℕ)) (xs : List A) → i < n → Leaves a b (parts_at r i) xs → Lacks b r → Lacks a (parts_at r n)
  short_lacks n i None b xs lt p q = tt
  short_lacks n i (Some bytes) None xs lt p q = absurd (none_some p.0 p.2)
  short_lacks n i (Some bytes) (Some mid) xs lt p q = parts_short n i bytes xs p.0 lt p.1 (ap r (sym (some_inj mid p.0 p.2)) ∙ q)

  none_leaves : (a : Option (List ℕ)) → Leaves a a (parts_at r 0) []
  none_leaves None = tt
  none_leaves (Some bytes) = (bytes, refl, refl)

module _ {R A : Type 0} (g : Ghosts R) (r : Reader A) where
  pub read_none : (a : R) → HasRead g a a (parts_at r 0) []
  read_none a = record { bytes = none_leaves r (g.remaining a); faults = refl }

  pub read_pushed : (i : ℕ) (a b c : R) (xs : List A) (x : A) → HasRead g a b (parts_at r i) xs → HasRead g b c r x → HasRead g a c (parts_at r (i + 1)) (xs ++ x ∷ [])
  read_pushed i a b c xs x p q =
      let next : suc i ≡ i + 1 = omega arith in
      record { bytes = subst (λ (n : ℕ). Leaves (g.remaining a) (g.remaining c) (parts_at r n) (xs ++ x ∷ [])) next (pushed_leaves r i (g.remaining a) (g.remaining b) (g.remaining c) xs x p.bytes q.bytes); faults = q.faults ∙ p.faults }

  pub stops_short : (n i : ℕ) (a b c : R) (xs : List A) (u : Unread) → i < n → HasRead g a b (parts_at r i) xs → Stops g b c r u → Stops g a c (parts_at r n) u
  stops_short n i a b c xs unread.Bad lt p s = record { why = short_lacks r n i (g.remaining a) (g.remaining b) xs lt p.bytes s.why }
  stops_short n i a b c xs unread.Io lt p s = record { why = later_failed g a b c p.faults s.why }
  stops_short n i a b c xs unread.NoMemory lt p s = record { why = tt }

-- what closes the clauses of a function that reads so many parts
pub ruleset lists = (read_none, read_pushed, stops_short)
