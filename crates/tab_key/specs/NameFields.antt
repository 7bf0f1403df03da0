-- For proofs. The fields of a name.
use Rattle.std.specs.Prelude.{ℕ, ◌≡◌, ◌-◌, ◌≤◌, List, ◌++◌, length, take, drop, replicate}
use Rattle.std.proofs.Common.{arith, sym, subst, length-append}
use Rattle.std.proofs.lemmas.List.{length-take-le, take-append-drop, length-replicate}
use Rattle.std.proofs.Math.Seq.{drop-append_seam, take-append_seam}
use Rattle.tab_key.specs.Names.{IsName}
use Rattle.tab_key.specs.declared.name.TheConstants.{MAX_NAME_LEN}
use Rattle.tab_key.specs.declared.name.Name.TheInside.{Inside}

-- the bytes past the name are zeros
pub record IsKept (n : Inside) : Type 0 where
  pub small : n.len ≤ MAX_NAME_LEN
  pub size : length n.bytes ≡ MAX_NAME_LEN
  pub name : IsName (take n.len n.bytes)
  pub zeros : drop n.len n.bytes ≡ replicate (MAX_NAME_LEN - n.len) 0

-- the fields that hold these bytes
abbrev pub fields_of : List ℕ → Inside
fields_of bs = record { bytes = bs ++ replicate (MAX_NAME_LEN - length bs) 0; len = length bs }

-- a name's bytes give its fields back
pub fields_of_kept : (n : Inside) → IsKept n → fields_of (take n.len n.bytes) ≡ n
fields_of_kept n kept =
    let small : n.len ≤ length n.bytes = omega (arith, kept.size, kept.small) in
    let len : length (take n.len n.bytes) ≡ n.len = length-take-le n.len n.bytes small in
    let bytes : take n.len n.bytes ++ replicate (MAX_NAME_LEN - length (take n.len n.bytes)) 0 ≡ n.bytes = rw (len, ← kept.zeros) (take-append-drop n.len n.bytes) in
    λ i. record { bytes = bytes i; len = len i }

-- a name and zeros after it make the fields of that name
pub kept_of : (bytes : List ℕ) (len : ℕ) (name : List ℕ) → len ≡ length name → bytes ≡ name ++ replicate (MAX_NAME_LEN - length name) 0 → IsName name → IsKept (record { bytes = bytes; len = len })
kept_of bytes len name is-len is-bytes valid =
    let P : List ℕ → ℕ → Type 0 = λ bs n. IsKept (record { bytes = bs; len = n }) in
    let whole : P (name ++ replicate (MAX_NAME_LEN - length name) 0) (length name) = record {
      small = valid.1;
      size = omega (arith, length-append name (replicate (MAX_NAME_LEN - length name) 0), length-replicate {A = ℕ} (MAX_NAME_LEN - length name) 0, valid.1);
      name = rw take-append_seam valid;
      zeros = drop-append_seam name (replicate (MAX_NAME_LEN - length name) 0);
    } in
    subst (λ (bs : List ℕ). P bs len) (sym is-bytes) (subst (λ (n : ℕ). P (name ++ replicate (MAX_NAME_LEN - length name) 0) n) (sym is-len) whole)
