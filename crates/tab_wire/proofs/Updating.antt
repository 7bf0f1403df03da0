-- Adding updates one after another, as a loop does.
use Rattle.std.proofs.Common.{◌≡◌, ℕ, suc, ◌-◌, ◌+◌, ◌≤◌, ◌<◌, List, [], ◌∷◌, Option, Some, None, refl, sym, ap, subst, ◌∙◌, append_assoc, arith}
use Rattle.std.proofs.lemmas.List.{append-nil}
use Rattle.tab_mutation.specs.Mutations.{Mutation, Update, with_update}
use Rattle.tab_codec.specs.Reading.{◌>>=◌, parts_at}
use Rattle.tab_codec.proofs.Exact.{some_inj}
use Rattle.tab_text.specs.declared.parse_error.ParseError.{ParseError}
use Rattle.tab_text.specs.declared.parse_error.ParseError.TheVariants as unread
use Rattle.tab_text.specs.Gives.{SaysNone}
use Rattle.tab_wire.specs.FrameReading.{update_at}
use Rattle.tab_wire.specs.Updating.{updated, grown}

-- what is read of so many updates, the first of them first
abbrev behind : ℕ → Option (Update × List ℕ) → Option (List Update × List ℕ)
behind k read = read >>= λ u. parts_at update_at k u.1 >>= λ us. Some (u.0 ∷ us.0, us.1)

regroup : (m : Mutation) (u : Update) (read : Option (List Update × List ℕ)) → grown m (read >>= λ us. Some (u ∷ us.0, us.1)) ≡ grown (with_update m u) read
regroup m u None = refl
regroup m u (Some us) = ap (λ (xs : List Update). let all : Mutation = record { row = m.row; updates = xs } in Some (all, us.1)) (sym (append_assoc m.updates (u ∷ []) us.0))

one_more : (m n : Mutation) (after : List ℕ) (k : ℕ) (read : Option (Update × List ℕ)) → updated m read ≡ Some (n, after) → grown m (behind k read) ≡ grown n (parts_at update_at k after)
one_more m n after k None is = absurd cc
one_more m n after k (Some u) is =
    let e = some_inj (with_update m u.0, u.1) (n, after) is in
    regroup m u.0 (parts_at update_at k u.1) ∙ ap (λ (p : Mutation × List ℕ). grown p.0 (parts_at update_at k p.1)) e

none_more : (e : ParseError) (m : Mutation) (k : ℕ) (read : Option (Update × List ℕ)) → SaysNone e (updated m read) → SaysNone e (grown m (behind k read))
none_more unread.NoMemory m k read is = tt
none_more unread.Malformed m k None is = refl
none_more unread.Malformed m k (Some u) is = absurd cc

-- one update was added
pub goes_on : (m n : Mutation) (count i : ℕ) (bytes after : List ℕ) (total : Option (Mutation × List ℕ)) → i < count → updated m (update_at bytes) ≡ Some (n, after)
    → grown m (parts_at update_at (count - i) bytes) ≡ total → grown n (parts_at update_at (count - (i + 1)) after) ≡ total
goes_on m n count i bytes after total lt read so_far =
    let k : count - i ≡ suc (count - (i + 1)) = omega arith in
    sym (one_more m n after (count - (i + 1)) (update_at bytes) read) ∙ sym (ap (λ (j : ℕ). grown m (parts_at update_at j bytes)) k) ∙ so_far

-- an update wasn't read
pub stops : (e : ParseError) (m : Mutation) (count i : ℕ) (bytes : List ℕ) (total : Option (Mutation × List ℕ)) → i < count → SaysNone e (updated m (update_at bytes))
    → grown m (parts_at update_at (count - i) bytes) ≡ total → SaysNone e total
stops e m count i bytes total lt read so_far =
    let k : count - i ≡ suc (count - (i + 1)) = omega arith in
    subst (SaysNone e) (sym (ap (λ (j : ℕ). grown m (parts_at update_at j bytes)) k) ∙ so_far) (none_more e m (count - (i + 1)) (update_at bytes) read)

-- all were added
pub is_done : (m : Mutation) (count i : ℕ) (bytes : List ℕ) (total : Option (Mutation × List ℕ)) → count ≤ i → grown m (parts_at update_at (count - i) bytes) ≡ total → total ≡ Some (m, bytes)
is_done m count i bytes total le so_far =
    let k : count - i ≡ 0 = omega arith in
    let one : grown m (parts_at update_at (count - i) bytes) ≡ Some (m, bytes) =
    ap (λ (j : ℕ). grown m (parts_at update_at j bytes)) k ∙ ap (λ (us : List Update). let all : Mutation = record { row = m.row; updates = us } in Some (all, bytes)) (append-nil m.updates) in
    sym so_far ∙ one
