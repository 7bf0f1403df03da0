-- A batch that stands at a place, read there.
use Rattle.std.proofs.Common.{◌≡◌, ℕ, ◌+◌, ◌-◌, ◌≤◌, ◌<◌, ◌↔◌, Bool, true, false, List, ◌++◌, length, take, drop, Option, Some, None, refl, sym, ap, subst, ◌∙◌, append_assoc, arith, inl, inr}
use Rattle.std.specs.Prelude.{is_some, option_map}
use Rattle.std.proofs.lemmas.Bool.{cases_lt}
use Rattle.std.proofs.lemmas.List.{drop_at, take-append-drop, length-append, length-take}
use Rattle.tab_codec.specs.Parts.{IsBytes, IsU64}
use Rattle.tab_codec.specs.Reading.{u64_at}
use Rattle.tab_codec.proofs.Exact.{bytes-drop, some_inj, bind_some, exact_u64}
use Rattle.tab_journal.specs.declared.seal.Seal.{Seal}
use Rattle.tab_journal.specs.Journals.{Batch, IsSummed}
use Rattle.tab_journal.specs.Reading.{tag_in, summed_at, batch_at}
use Rattle.tab_journal.specs.Damage.{StandsAt, IsLaterIn, IsDamagedIn}
use Rattle.tab_journal.proofs.Forms.{exact_tag, exact_summed, exact_batch, batch_long}

-- ---- tests
pub no : {P : Type 0} → (P → ⊥) → (false ≡ true) ↔ P
no never = (λ (e : false ≡ true). absurd cc, λ p. absurd (never p))

pub yes_it_is : {P : Type 0} → P → (true ≡ true) ↔ P
yes_it_is p = (λ e. p, λ q. refl)

not_both : (b : Bool) → b ≡ true → b ≡ false → ⊥
not_both true yes_b no_b = absurd cc
not_both false yes_b no_b = absurd cc

some_mapped : {A B : Type 0} (f : A → B) (o : Option A) → is_some (option_map f o) ≡ is_some o
some_mapped f None = refl
some_mapped f (Some x) = refl

pub none_is_some : {A : Type 0} (x : A) → None ≡ Some x → ⊥
none_is_some x e = absurd cc

-- ---- what a batch says first behind its tag is what it says of the disk
says_first : (salt before : ℕ) (text behind : List ℕ) (b : Batch) → IsSummed salt before text b → (more : List ℕ) × (u64_at (text ++ behind) ≡ Some (b.settled, more))
says_first salt before text behind b is = (
  (is.f ++ is.m) ++ behind,
  ap u64_at (ap (λ (z : List ℕ). z ++ behind) is.spelled ∙ append_assoc is.s (is.f ++ is.m) behind) ∙ exact_u64.complete is.s ((is.f ++ is.m) ++ behind) b.settled is.settled,
)

-- a tag, and what has the sum, are a batch
both_read : (seal : Seal) (before : ℕ) (tail rest : List ℕ) (o : Option (Batch × List ℕ)) → tag_in seal.form seal.salt tail ≡ Some (tt, rest) → summed_at seal.salt before rest ≡ o → batch_at seal before tail ≡ o
unfolding batch_at
both_read seal before tail rest o tag is = bind_some (tag_in seal.form seal.salt tail) (tt, rest) (λ u. summed_at seal.salt before u.1) o tag is

module _ (seal : Seal) (bytes : List ℕ) where
  -- ---- where a batch stands, it is read
  pub record ReadAt (p : ℕ) (b : Batch) : Type 0 where
    pub before : ℕ
    pub tail : List ℕ
    pub rest : List ℕ
    pub behind : List ℕ
    pub more : List ℕ
    pub summed : u64_at (drop (p - 8) bytes) ≡ Some (before, tail)
    pub tagged : tag_in seal.form seal.salt tail ≡ Some (tt, rest)
    pub settled : u64_at rest ≡ Some (b.settled, more)
    pub whole : summed_at seal.salt before rest ≡ Some (b, behind)
    pub low : 8 ≤ p
    pub inside : p + 20 ≤ length bytes

  pub stands_reads : (p : ℕ) (b : Batch) → StandsAt seal p bytes b → ReadAt p b
  stands_reads p b s =
      let eight : length s.sum ≡ 8 = ap (λ (z : List ℕ). length z) s.summed.0 in
      let here : length s.ahead ≡ p - 8 = omega (arith, eight, s.place) in
      let i = s.whole in
      let first = says_first seal.salt s.before i.r s.behind b i.summed in
      let long : length bytes ≡ length s.ahead + length (s.sum ++ (s.text ++ s.behind)) = ap (λ (z : List ℕ). length z) s.spelled ∙ length-append s.ahead (s.sum ++ (s.text ++ s.behind)) in
      record {
        before = s.before;
        tail = s.text ++ s.behind;
        rest = i.r ++ s.behind;
        behind = s.behind;
        more = first.0;
        summed = ap u64_at (ap (λ (z : List ℕ). drop (p - 8) z) s.spelled ∙ drop_at s.ahead (s.sum ++ (s.text ++ s.behind)) (p - 8) here) ∙ exact_u64.complete s.sum (s.text ++ s.behind) s.before s.summed;
        tagged = ap (tag_in seal.form seal.salt) (ap (λ (z : List ℕ). z ++ s.behind) i.whole ∙ append_assoc i.t i.r s.behind) ∙ (exact_tag seal.form seal.salt).complete i.t (i.r ++ s.behind) tt i.tag;
        settled = first.1;
        whole = (exact_summed seal.salt s.before).complete i.r s.behind b i.summed;
        low = omega (arith, eight, s.place);
        inside = omega (arith, long, eight, s.place, length-append s.sum (s.text ++ s.behind), length-append s.text s.behind, batch_long seal s.before s.text b s.whole);
      }

  -- ---- where one is read, it stands
  stands_behind : (p before : ℕ) (sum tail rest : List ℕ) (b : Batch) → 8 ≤ p → p ≤ length bytes → drop (p - 8) bytes ≡ sum ++ tail → IsU64 sum before → IsBytes tail → batch_at seal before tail ≡ Some (b, rest) → StandsAt seal p bytes b
  stands_behind p before sum tail rest b low inside parts summed fits whole =
      let t = (exact_batch seal before).sound tail b rest fits whole in
      let eight : length sum ≡ 8 = ap (λ (z : List ℕ). length z) summed.0 in
      record {
        ahead = take (p - 8) bytes;
        sum = sum;
        text = t.front;
        behind = rest;
        before = before;
        spelled = sym (take-append-drop (p - 8) bytes) ∙ ap (λ (z : List ℕ). take (p - 8) bytes ++ z) (parts ∙ ap (λ (z : List ℕ). sum ++ z) t.parts);
        place = omega (arith, low, inside, eight, length-take (p - 8) bytes);
        summed = summed;
        whole = t.says;
      }

  pub reads_stands : (p before : ℕ) (tail rest : List ℕ) (b : Batch) → IsBytes bytes → 8 ≤ p → p ≤ length bytes → u64_at (drop (p - 8) bytes) ≡ Some (before, tail) → batch_at seal before tail ≡ Some (b, rest) → StandsAt seal p bytes b
  reads_stands p before tail rest b fits low inside summed whole =
      let t = exact_u64.sound (drop (p - 8) bytes) before tail (bytes-drop (p - 8) bytes fits) summed in
      stands_behind p before t.front tail rest b low inside t.parts t.says t.fits whole

  -- ---- the test of one place of a window
  module _ (n p : ℕ) (from_sum : List ℕ) (at : from_sum ≡ drop (p - 8) bytes) where
    -- the sum and what stands behind it are those that are read
    same : (before : ℕ) (tail : List ℕ) (b : Batch) → Some (before, tail) ≡ u64_at from_sum → (r : ReadAt p b) → (before ≡ r.before) × (tail ≡ r.tail)
    same before tail b is r =
        let e = some_inj (before, tail) (r.before, r.tail) (is ∙ ap u64_at at ∙ r.summed) in
        (ap (λ (x : ℕ × List ℕ). x.0) e, ap (λ (x : ℕ × List ℕ). x.1) e)

    pub none_summed : None ≡ u64_at from_sum → (false ≡ true) ↔ IsLaterIn seal n bytes p
    none_summed none = no (λ later. let r = stands_reads p later.0 later.1 in none_is_some (r.before, r.tail) (none ∙ ap u64_at at ∙ r.summed))

    module _ (before : ℕ) (tail : List ℕ) (is : Some (before, tail) ≡ u64_at from_sum) where
      pub none_tagged : None ≡ tag_in seal.form seal.salt tail → (false ≡ true) ↔ IsLaterIn seal n bytes p
      none_tagged none = no (λ later.
          let r = stands_reads p later.0 later.1 in
          none_is_some (tt, r.rest) (none ∙ ap (tag_in seal.form seal.salt) (same before tail later.0 is r).1 ∙ r.tagged))

      module _ (rest : List ℕ) (tag : Some (tt, rest) ≡ tag_in seal.form seal.salt tail) where
        same_rest : (b : Batch) → (r : ReadAt p b) → rest ≡ r.rest
        same_rest b r = ap (λ (x : Unit {0} × List ℕ). x.1) (some_inj (tt, rest) (tt, r.rest) (tag ∙ ap (tag_in seal.form seal.salt) (same before tail b is r).1 ∙ r.tagged))

        same_settled : (more : List ℕ) (settled : ℕ) (b : Batch) → Some (settled, more) ≡ u64_at rest → ReadAt p b → settled ≡ b.settled
        same_settled more settled b first r = ap (λ (x : ℕ × List ℕ). x.0) (some_inj (settled, more) (b.settled, r.more) (first ∙ ap u64_at (same_rest b r) ∙ r.settled))

        pub none_settled : None ≡ u64_at rest → (false ≡ true) ↔ IsLaterIn seal n bytes p
        none_settled none = no (λ later.
            let r = stands_reads p later.0 later.1 in
            none_is_some (later.0.settled, r.more) (none ∙ ap u64_at (same_rest later.0 r) ∙ r.settled))

        pub settled_before : (more : List ℕ) (settled : ℕ) → Some (settled, more) ≡ u64_at rest → settled ≤ n → (false ≡ true) ↔ IsLaterIn seal n bytes p
        settled_before more settled first le = no (λ later.
            let r = stands_reads p later.0 later.1 in
            omega (arith, le, later.2, same_settled more settled later.0 first r))

        pub settled_behind : (more : List ℕ) (settled : ℕ) → Some (settled, more) ≡ u64_at rest → n + p < settled + 8 → (false ≡ true) ↔ IsLaterIn seal n bytes p
        settled_behind more settled first less = no (λ later.
            let r = stands_reads p later.0 later.1 in
            omega (arith, less, later.3, same_settled more settled later.0 first r))

        by_batch : (more : List ℕ) (settled : ℕ) → IsBytes bytes → 8 ≤ p → p ≤ length bytes → Some (settled, more) ≡ u64_at rest → n < settled → settled + 8 ≤ n + p
            → (o : Option (Batch × List ℕ)) → o ≡ summed_at seal.salt before rest → (is_some o ≡ true) ↔ IsLaterIn seal n bytes p
        by_batch more settled fits low inside first above below None none = no (λ later.
            let r = stands_reads p later.0 later.1 in
            let e = same before tail later.0 is r in
            none_is_some (later.0, r.behind) (none ∙ ap (λ (z : List ℕ). summed_at seal.salt before z) (same_rest later.0 r) ∙ ap (λ (s : ℕ). summed_at seal.salt s r.rest) e.0 ∙ r.whole))
        by_batch more settled fits low inside first above below (Some x) one =
            let stands = reads_stands p before tail x.1 x.0 fits low inside (ap u64_at (sym at) ∙ sym is) (both_read seal before tail rest (Some x) (sym tag) (sym one)) in
            let e : settled ≡ x.0.settled = same_settled more settled x.0 first (stands_reads p x.0 stands) in
            yes_it_is (x.0, stands, omega (arith, above, e), omega (arith, below, e))

        pub by_call : {A : Type 0} (r : Option A) (f : A → Batch × List ℕ) (t : Bool) (more : List ℕ) (settled : ℕ) → option_map f r ≡ summed_at seal.salt before rest → t ≡ is_some r → IsBytes bytes → 8 ≤ p → p ≤ length bytes
            → Some (settled, more) ≡ u64_at rest → n < settled → settled + 8 ≤ n + p → (t ≡ true) ↔ IsLaterIn seal n bytes p
        by_call r f t more settled read told fits low inside first above below =
            subst (λ (x : Bool). (x ≡ true) ↔ IsLaterIn seal n bytes p) (some_mapped f r ∙ sym told) (by_batch more settled fits low inside first above below (option_map f r) read)

  -- ---- all places
  -- none of the places before this one has such a batch
  abbrev pub NoneBefore : ℕ → ℕ → Type 0
  NoneBefore n p = (q : ℕ) → IsLaterIn seal n bytes q → p ≤ q

  pub none_ahead : (n : ℕ) → NoneBefore n 8
  none_ahead n q later = (stands_reads q later.0 later.1).low

  pub none_here : (n p : ℕ) → NoneBefore n p → (b : Bool) → (b ≡ true) ↔ IsLaterIn seal n bytes p → b ≡ false → NoneBefore n (p + 1)
  none_here n p none b here is q later = elim (cases_lt p q) [
    | inl less ↦ omega (arith, less)
    | inr le ↦
        let same_place : q ≡ p = omega (arith, le, none q later) in
        absurd (not_both b (here.1 (subst (λ (k : ℕ). IsLaterIn seal n bytes k) same_place later)) is)
  ]

  pub none_at_all : (n p : ℕ) → NoneBefore n p → length bytes ≤ p → (false ≡ true) ↔ IsDamagedIn seal n bytes
  none_at_all n p none over = no (λ (d : IsDamagedIn seal n bytes).
      let r = stands_reads d.0 d.1.0 d.1.1 in
      let le = none d.0 d.1 in
      omega (arith, over, le, r.inside))
