-- Cursors over clips, put one behind the other.
use Rattle.std.proofs.Common.{◌≡◌, ℕ, ◌+◌, ◌<◌, List, [], ◌∷◌, ◌++◌, refl, sym, ◌∙◌, ap, subst, length, map, take, get_or, append_assoc, append-nil}
use Rattle.std.proofs.lemmas.List.{take_more, map-append}
use Rattle.tab_key.specs.Records.{Record}
use Rattle.tab_iter.specs.Bags.{flat}
use Rattle.tab_mem.specs.Lists.{HasShortParts}
use Rattle.tab_mem.proofs.ShortParts.{short_both}
use Rattle.tab_version.specs.Sources.{Sorted, Sources, records_of}
use Rattle.tab_version.specs.Clips.{lists_of}

pub flat_both : (xs ys : List (List Record)) → flat (xs ++ ys) ≡ flat xs ++ flat ys
flat_both [] ys = refl
flat_both (x ∷ xs) ys = ap (λ l. x ++ l) (flat_both xs ys) ∙ sym (append_assoc x (flat xs) (flat ys))

pub lists_joined : (s : Sources) → flat (lists_of s) ≡ records_of s
lists_joined s = flat_both s.runs (map (λ t. t.records) s.tables)

pub runs_alone : (s : Sources) (runs : List (List Record)) (tables : List Sorted) → s ≡ record { runs = runs; tables = tables } → tables ≡ [] → records_of s ≡ flat runs
runs_alone s runs tables e f = ap records_of e ∙ ap (λ (ts : List Sorted). flat runs ++ flat (map (λ (t : Sorted). t.records) ts)) f ∙ append-nil (flat runs)

-- one cursor more
pub put_one : {S C : Type 0} (f : S → List Record) (g : C → List Record) (start : List (List Record)) (before after : List S) (s : S) (cs : List C) (i : ℕ) (c : C) → i < length cs → c ≡ get_or cs i c → after ≡ before ++ s ∷ [] → f s ≡ g c → map f before ≡ start ++ map g (take i cs) → map f after ≡ start ++ map g (take (i + 1) cs)
put_one f g start before after s cs i c lt is e same old =
    ap (map f) e
    ∙ map-append f before (s ∷ [])
    ∙ (λ k. old k ++ same k ∷ [])
    ∙ append_assoc start (map g (take i cs)) (g c ∷ [])
    ∙ ap (λ l. start ++ l) (sym (map-append g (take i cs) (c ∷ [])) ∙ ap (map g) (ap (λ x. take i cs ++ x ∷ []) is ∙ sym (take_more cs i c lt)))

-- .. where each clip is the list itself
pub put_list : {S : Type 0} (f : S → List Record) (start : List (List Record)) (before after : List S) (s : S) (cs : List (List Record)) (i : ℕ) (c : List Record) → i < length cs → c ≡ get_or cs i c → after ≡ before ++ s ∷ [] → f s ≡ c → map f before ≡ start ++ take i cs → map f after ≡ start ++ take (i + 1) cs
put_list f start before after s cs i c lt is e same old =
    ap (map f) e
    ∙ map-append f before (s ∷ [])
    ∙ (λ k. old k ++ same k ∷ [])
    ∙ append_assoc start (take i cs) (c ∷ [])
    ∙ ap (λ l. start ++ l) (ap (λ x. take i cs ++ x ∷ []) is ∙ sym (take_more cs i c lt))

-- one more made of the next
pub one_more : {S T : Type 0} (f : S → T) (before after : List T) (t : T) (cs : List S) (i : ℕ) (c : S) → i < length cs → c ≡ get_or cs i c → after ≡ before ++ t ∷ [] → t ≡ f c → before ≡ map f (take i cs) → after ≡ map f (take (i + 1) cs)
one_more f before after t cs i c lt is e same old =
    e
    ∙ (λ k. old k ++ same k ∷ [])
    ∙ sym (map-append f (take i cs) (c ∷ []))
    ∙ ap (map f) (ap (λ x. take i cs ++ x ∷ []) is ∙ sym (take_more cs i c lt))

-- the cursors over runs and those over tables
pub gathered : {S : Type 0} (f : S → List Record) (none runs all : List S) (rs : List (List Record)) (ts : List Sorted) (qs : List (List Record)) (us : List Sorted) (s : Sources) → none ≡ [] → map f runs ≡ map f none ++ rs → map f all ≡ map f runs ++ map (λ (t : Sorted). t.records) ts → rs ≡ qs → ts ≡ us → ◌≡◌ {A = Sources} (record { runs = qs; tables = us }) s → flat (map f all) ≡ records_of s
gathered f none runs all rs ts qs us s e a b r t v =
    let first : map f runs ≡ rs = a ∙ ap (λ l. map f l ++ rs) e in
    ap flat (b ∙ (λ k. first k ++ map (λ (t : Sorted). t.records) ts) ∙ (λ k. r k ++ map (λ (t : Sorted). t.records) (t k))) ∙ ap (λ (x : Sources). flat (lists_of x)) v ∙ lists_joined s

-- ---- short parts
pub all_short : (rs : List (List Record)) (ts : List Sorted) (qs : List (List Record)) (us : List Sorted) (s : Sources) → HasShortParts (flat rs) → HasShortParts (flat (map (λ (t : Sorted). t.records) ts)) → rs ≡ qs → ts ≡ us → ◌≡◌ {A = Sources} (record { runs = qs; tables = us }) s → HasShortParts (records_of s)
all_short rs ts qs us s a b r t v =
    subst (λ (x : Sources). HasShortParts (records_of x)) v
    (subst (λ (x : List (List Record)). HasShortParts (records_of (record { runs = x; tables = us }))) r
    (subst (λ (x : List Sorted). HasShortParts (records_of (record { runs = rs; tables = x }))) t (short_both (flat rs) (flat (map (λ (t : Sorted). t.records) ts)) a b)))

pub short_more : (xs : List (List Record)) (x : List Record) → HasShortParts (flat xs) → HasShortParts x → HasShortParts (flat (xs ++ x ∷ []))
short_more xs x a b = subst HasShortParts (sym (flat_both xs (x ∷ []))) (short_both (flat xs) (x ++ []) a (short_both x [] b (λ u h. absurd h)))

pub short_next : {C : Type 0} (g : C → List Record) (cs : List C) (i : ℕ) (c : C) → i < length cs → c ≡ get_or cs i c → HasShortParts (flat (map g (take i cs))) → HasShortParts (g c) → HasShortParts (flat (map g (take (i + 1) cs)))
short_next g cs i c lt is a b =
    subst (λ l. HasShortParts (flat l)) (sym (ap (map g) (take_more cs i c lt ∙ ap (λ x. take i cs ++ x ∷ []) (sym is)) ∙ map-append g (take i cs) (c ∷ []))) (short_more (map g (take i cs)) (g c) a b)

pub short_list : (cs : List (List Record)) (i : ℕ) (c : List Record) → i < length cs → c ≡ get_or cs i c → HasShortParts (flat (take i cs)) → HasShortParts c → HasShortParts (flat (take (i + 1) cs))
short_list cs i c lt is a b = subst (λ l. HasShortParts (flat l)) (sym (take_more cs i c lt ∙ ap (λ x. take i cs ++ x ∷ []) (sym is))) (short_more (take i cs) c a b)
