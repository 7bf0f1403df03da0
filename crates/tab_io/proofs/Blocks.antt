-- A block of bytes that is read from, or gathered for a write.
use Rattle.std.proofs.Common.{◌≡◌, ℕ, ◌+◌, ◌-◌, ◌≤◌, List, [], ◌++◌, length, take, drop, slice_range, refl, sym, ap, ◌∙◌, subst, arith, append_assoc, append-nil, length-append, drop-drop, Option, Some, None, Result, Ok, Err, take-append-drop}
use Rattle.std.specs.Io.KnownBytes.{Appends, Consumes, Keeps, prepend_known}
use Rattle.std.proofs.KnownBytes.{Appends-kept}
use Rattle.std.proofs.Math.Seq.{drop-length, take-add}
use Rattle.std.proofs.lemmas.List.{take_all, take_at, take-take, length-take-le, drop_at, drop-take, take-append-le, drop-append-le}
use Rattle.tab_io.specs.Streams.{Gathers, GathersPart, Accepts, Drains}
use Rattle.tab_io.proofs.Putting.{accepts_more}

-- what is left of a part once its first bytes are taken
pub range_later : (xs : List ℕ) (a e n : ℕ) → n ≤ e - a → slice_range xs (a + n) e ≡ drop n (slice_range xs a e)
range_later xs a e n fits =
    let whole : n + (e - (a + n)) ≡ e - a = omega arith in
    ap (take (e - (a + n))) (sym (drop-drop n a xs)) ∙ sym (drop-take n (e - (a + n)) (drop a xs)) ∙ ap (λ k. drop n (take k (drop a xs))) whole

-- a step of k bytes is copied into a block, and its first bytes join those before it
pub step_taken : (xs items ys bs behind rest : List ℕ) (a n k size : ℕ) → xs ≡ items → ys ≡ take k bs → n ≤ k → k ≤ length bs → a ≤ length xs → a + n ≤ size
    → take (a + n) (take size ((take a xs ++ (ys ++ behind)) ++ rest)) ≡ take a items ++ take n bs
step_taken xs items ys bs behind rest a n k size same is few fits within room =
    let more : List ℕ = behind ++ rest in
    let whole : List ℕ = take a xs ++ (ys ++ more) in
    let grouped : (take a xs ++ (ys ++ behind)) ++ rest ≡ whole = append_assoc (take a xs) (ys ++ behind) rest ∙ ap (λ t. take a xs ++ t) (append_assoc ys behind rest) in
    let long : length ys ≡ k = ap length is ∙ length-take-le k bs fits in
    let before : length (take a xs) ≡ a = length-take-le a xs within in
    let first : take a whole ≡ take a items = take_at (take a xs) (ys ++ more) a before ∙ ap (take a) same in
    let later : take n (drop a whole) ≡ take n bs =
    ap (take n) (drop_at (take a xs) (ys ++ more) a before) ∙ take-append-le n ys more (omega (arith, long, few)) ∙ ap (take n) is ∙ take-take n k bs few in
    take-take (a + n) size ((take a xs ++ (ys ++ behind)) ++ rest) room ∙ ap (take (a + n)) grouped ∙ take-add a n whole ∙ (λ i. first i ++ later i)

-- of a block and what comes after it, the first bytes of the block are taken
pub front_taken : (known : Option (List ℕ)) (front : List ℕ) (n : ℕ) → Consumes (prepend_known front known) (prepend_known (drop n front) known) (take n front)
front_taken None front n = tt
front_taken (Some rest) front n = ap (λ bs. bs ++ rest) (sym (take-append-drop n front)) ∙ append_assoc (take n front) (drop n front) rest

-- a write stopped inside the block
pub block_cut : (c c' : Option (List ℕ)) (items rest : List ℕ) (done n : ℕ) → rest ≡ drop done items → n ≤ length rest
    → Appends c c' (take n rest) → Gathers c (drop done items) c' (drop (done + n) items) []
block_cut c c' items rest done n is fits grown =
    let held : List ℕ = drop done items in
    let P : List ℕ → Type 0 = λ x. Appends c c' (take n x) in
    let same : rest ≡ held ++ [] = is ∙ sym (append-nil held) in
    record {
      count = n;
      fits = omega (arith, ap length same);
      written = subst P same grown;
      left = sym (drop-drop n done items) ∙ ap (drop n) (sym (append-nil held));
    }

-- all that was gathered is written, and these bytes are gathered
pub gathered_anew : (c c1 : Option (List ℕ)) (h h2 bs : List ℕ) → Appends c c1 h → h2 ≡ bs → Gathers c h c1 h2 bs
gathered_anew c c1 h h2 bs grown is =
    let P : List ℕ → Type 0 = λ x. Appends c c1 x in record {
      count = length h;
      fits = omega (arith, length-append h bs);
      written = subst P (sym (take-append-le (length h) h bs (omega arith) ∙ take_all (length h) h (omega arith))) grown;
      left = is ∙ sym (drop-append-le (length h) h bs (omega arith) ∙ ap (λ x. x ++ bs) (drop-length h));
    }

-- nothing was gathered, and these bytes are written
pub written_straight : (c c' : Option (List ℕ)) (h' bs : List ℕ) → h' ≡ [] → Appends c c' bs → Gathers c [] c' h' bs
written_straight c c' h' bs none grown =
    let P : List ℕ → Type 0 = λ x. Appends c c' x in record {
      count = length bs;
      fits = omega arith;
      written = subst P (sym (take_all (length bs) bs (omega arith))) grown;
      left = none ∙ sym (drop-length bs);
    }

-- nothing was gathered, and a beginning of these bytes is written
pub straight_part : (c c' : Option (List ℕ)) (h' bs : List ℕ) (n : ℕ) → h' ≡ [] → Appends c c' (take n bs) → GathersPart c [] c' h' bs
straight_part c c' h' bs n none grown = record {
  part = take n bs;
  rest = drop n bs;
  whole = sym (take-append-drop n bs);
  put = written_straight c c' h' (take n bs) none grown;
}

-- nothing of the bytes was put
pub none_put : (c c' : Option (List ℕ)) (h h' bs : List ℕ) → Gathers c h c' h' [] → GathersPart c h c' h' bs
none_put c c' h h' bs kept = record { part = []; rest = bs; whole = refl; put = kept }

-- bytes that are put behind a block that is written whole
pub accepts_after : {E : Type 0} (c c1 c2 : Option (List ℕ)) (h h2 bs : List ℕ) (r : Result (Unit {0}) E) → Appends c c1 h → Accepts c1 [] c2 h2 bs r → Accepts c h c2 h2 bs r
accepts_after c c1 c2 h h2 bs r grown put = accepts_more c h c1 [] c2 h2 [] bs r (gathered_anew c c1 h [] [] grown refl) put

-- the writer passes on a block that is written whole
pub passed_on : {E : Type 0} (c c1 c2 : Option (List ℕ)) (h h1 : List ℕ) (r : Result (Unit {0}) E) → Appends c c1 h → h1 ≡ [] → Keeps c1 c2 → Drains c h c2 h1 r
passed_on c c1 c2 h h1 (Ok u) grown none same = (Appends-kept c c1 c2 h grown same, none)
passed_on c c1 c2 h h1 (Err e) grown none same = gathered_anew c c2 h h1 [] (Appends-kept c c1 c2 h grown same) none
