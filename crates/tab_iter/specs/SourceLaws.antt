-- For proofs. What each source shows of its lists: the ghost items of the sources, which can cite no proofs of their own crate, are these.
use Rattle.std.proofs.Common.{◌≡◌, ◌⊎◌, inl, inr, ℕ, ◌-◌, List, [], ◌∷◌, ◌++◌, Bool, true, false, refl, sym, ◌∙◌, ap, take, drop, length, map}
use Rattle.std.specs.Prelude.{filter, int_le}
use Rattle.std.proofs.lemmas.List.{append-nil, take-append-drop}
use Rattle.std.proofs.lemmas.List.Elements.{filter-append}
use mathlib.Core.Bool.{true≢false}
use Rattle.tab_key.specs.Records.{Record}
use Rattle.tab_key.specs.Sorted.{sorted, IsIn}
use Rattle.tab_key.proofs.Rising.{in_filter, in_sorted}
use Rattle.tab_cells.proofs.Lists.{in_append}
use Rattle.tab_iter.specs.Lists.{latest, HasI64Timestamps, IsEnd}
use Rattle.tab_iter.specs.Bags.{flat, IsEnding}
use Rattle.tab_iter.specs.Positions.{unless}

-- ---- what is left is an end of it
pub ends_nil : (w : List Record) → IsEnd [] w
ends_nil w = record { passed = w; whole = append-nil w }

pub ends_filter : (p : Record → Bool) (xs w : List Record) → IsEnd xs w → IsEnd (filter p xs) (filter p w)
ends_filter p xs w e = record { passed = filter p e.passed; whole = sym (filter-append p e.passed xs) ∙ ap (filter p) e.whole }

pub ends_drop : (n : ℕ) (w : List Record) → IsEnd (drop n w) w
ends_drop n w = record { passed = take n w; whole = take-append-drop n w }

pub end_of_ending : (xs w : List Record) → IsEnding xs w → IsEnd xs w
end_of_ending xs w e = record { passed = take (length w - length xs) w; whole = ap (λ l. take (length w - length xs) w ++ l) e ∙ take-append-drop (length w - length xs) w }

-- ---- a source that may be unpositioned
pub unless_ends : (unpositioned : Bool) (xs w : List Record) → (unpositioned ≡ false → IsEnd xs w) → IsEnd (unless unpositioned xs) w
unless_ends true xs w e = ends_nil w
unless_ends false xs w e = e refl

pub unless_empty : (unpositioned : Bool) (xs : List Record) → unpositioned ≡ true → unless unpositioned xs ≡ []
unless_empty true xs e = refl
unless_empty false xs e = absurd (true≢false (sym e))

pub unless_positioned : (unpositioned : Bool) (xs : List Record) → unpositioned ≡ false → unless unpositioned xs ≡ xs
unless_positioned true xs e = absurd (true≢false e)
unless_positioned false xs e = refl

-- a source that is never unpositioned
pub always_positioned : (xs : List Record) → false ≡ true → xs ≡ []
always_positioned xs e = absurd (true≢false (sym e))

-- ---- each timestamp is an i64
pub i64_timestamps_filter : (p : Record → Bool) (w : List Record) → HasI64Timestamps w → HasI64Timestamps (filter p w)
i64_timestamps_filter p w t = λ u h. t u (in_filter p w u h).0

i64_timestamps_flat : {S : Type 0} (f : S → List Record) → ((s : S) → HasI64Timestamps (f s)) → (ss : List S) → HasI64Timestamps (flat (map f ss))
i64_timestamps_flat f m [] u h = absurd h
i64_timestamps_flat f m (s ∷ ss) u h = go (in_append (f s) (flat (map f ss)) u h) (i64_timestamps_flat f m ss u)
  where
    go : IsIn (f s) u ⊎ IsIn (flat (map f ss)) u → (IsIn (flat (map f ss)) u → int_le u.key.timestamp latest ≡ true) → int_le u.key.timestamp latest ≡ true
    go (inl a) ih = m s u a
    go (inr b) ih = ih b

pub i64_timestamps_sorted : {S : Type 0} (f : S → List Record) → ((s : S) → HasI64Timestamps (f s)) → (ss : List S) → HasI64Timestamps (sorted (flat (map f ss)))
i64_timestamps_sorted f m ss u h = i64_timestamps_flat f m ss u (in_sorted (flat (map f ss)) u h)
