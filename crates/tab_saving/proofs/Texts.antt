-- Texts put one after another, where memory may lack.
use Rattle.std.proofs.Common.{◌≡◌, ℕ, List, [], ◌∷◌, ◌++◌, refl, sym, ap, ◌∙◌, subst, append_assoc, append-nil, Ok, Err}
use Rattle.std.specs.Prelude.{Result, IsErr, Some, None}
use Rattle.std.specs.Result.{IsErrAnd}
use Rattle.std.specs.List.{flat_map}
use Rattle.tab_key.specs.Records.{Record}
use Rattle.tab_iter.specs.Lists.{first_of, tail}
use Rattle.tab_io.specs.Writing.{HasPut, HasPutPart}
use Rattle.tab_io.specs.declared.writing.Output.{Ghosts}
use Rattle.tab_io.proofs.Putting.{gathers_more, put_more, put_part_more, part_longer, put_none}
use Rattle.tab_io.proofs.Each.{flat_map-append}
use Rattle.tab_saving.specs.Saves.{HasBegun, Saves}
use Rattle.tab_saving.specs.declared.fault.SaveFault.{SaveFault}
use Rattle.tab_saving.specs.declared.fault.SaveFault.TheVariants as fault

module _ {W : Type 0} (g : Ghosts W) where
  -- what was put, of a longer text
  pub begun_after : (a b : W) (t u : List ℕ) → HasPut g a b t → HasBegun g a b (t ++ u)
  begun_after a b t u p = record { bytes = record { part = t; rest = u; whole = refl; put = p.bytes }; faults = p.faults }

  -- nothing
  pub begun_none : (a : W) (t : List ℕ) → HasBegun g a a t
  begun_none a t = begun_after a a [] t (put_none g a)

  pub begun_longer : (a b : W) (t u : List ℕ) → HasBegun g a b t → HasBegun g a b (t ++ u)
  begun_longer a b t u p = record {
    bytes = record { part = p.bytes.part; rest = p.bytes.rest ++ u; whole = ap (λ x. x ++ u) p.bytes.whole ∙ append_assoc p.bytes.part p.bytes.rest u; put = p.bytes.put };
    faults = p.faults;
  }

  pub begun_more : (a b c : W) (t u : List ℕ) → HasPut g a b t → HasBegun g b c u → HasBegun g a c (t ++ u)
  begun_more a b c t u p q = record {
    bytes = record {
      part = t ++ q.bytes.part;
      rest = q.bytes.rest;
      whole = ap (λ x. t ++ x) q.bytes.whole ∙ sym (append_assoc t q.bytes.part q.bytes.rest);
      put = gathers_more (g.contents a) (g.held a) (g.contents b) (g.held b) (g.contents c) (g.held c) t q.bytes.part p.bytes q.bytes.put;
    };
    faults = q.faults ∙ p.faults;
  }

  -- a text, and then another
  pub saves_more : (a b c : W) (t u : List ℕ) (r : Result (Unit {0}) SaveFault) → HasPut g a b t → Saves g b c u r → Saves g a c (t ++ u) r
  saves_more a b c t u (Ok x) p q = put_more p q
  saves_more a b c t u (Err fault.Write) p q = put_part_more p q
  saves_more a b c t u (Err fault.NoMemory) p q = begun_more a b c t u p q

  -- a beginning of a text is one of a longer text
  pub failed_longer : (a b : W) (t u : List ℕ) (e : SaveFault) → Saves g a b t (Err e) → Saves g a b (t ++ u) (Err e)
  failed_longer a b t u fault.Write p = part_longer u p
  failed_longer a b t u fault.NoMemory p = begun_longer a b t u p

  -- the same text
  pub saves_same : (a b : W) (t u : List ℕ) (r : Result (Unit {0}) SaveFault) → t ≡ u → Saves g a b t r → Saves g a b u r
  saves_same a b t u r e s = subst (λ x. Saves g a b x r) e s

  -- ---- by the reason why not, as `?` tells it
  -- memory lacked before anything was put
  pub lacks_first : (a : W) (t : List ℕ) (r : Result (Unit {0}) SaveFault) → IsErr r × IsErrAnd r (λ e. e ≡ fault.NoMemory) → Saves g a a t r
  lacks_first a t (Ok u) h = absurd h.1
  lacks_first a t (Err e) h = subst (λ x. Saves g a a t (Err x)) (sym h.1) (begun_none a t)

  -- memory lacked behind a text
  pub lacks_then : (a b : W) (t u : List ℕ) (r : Result (Unit {0}) SaveFault) → HasPut g a b t → IsErr r × IsErrAnd r (λ e. e ≡ fault.NoMemory) → Saves g a b (t ++ u) r
  lacks_then a b t u (Ok x) p h = absurd h.1
  lacks_then a b t u (Err e) p h = subst (λ x. Saves g a b (t ++ u) (Err x)) (sym h.1) (begun_after a b t u p)

  -- a write failed, and another text was to follow, or none
  pub write_fails : (a b : W) (t u : List ℕ) (r : Result (Unit {0}) SaveFault) → HasPutPart g a b t → IsErr r × IsErrAnd r (λ e. e ≡ fault.Write) → Saves g a b (t ++ u) r
  write_fails a b t u (Ok x) p h = absurd h.1
  write_fails a b t u (Err e) p h = subst (λ x. Saves g a b (t ++ u) (Err x)) (sym h.1) (part_longer u p)

  pub last_fails : (a b : W) (t : List ℕ) (r : Result (Unit {0}) SaveFault) → HasPutPart g a b t → IsErr r × IsErrAnd r (λ e. e ≡ fault.Write) → Saves g a b t r
  last_fails a b t (Ok x) p h = absurd h.1
  last_fails a b t (Err e) p h = subst (λ x. Saves g a b t (Err x)) (sym h.1) p

-- what closes the clauses of a function that puts several texts
pub ruleset saving = (begun_none, begun_after, begun_more, begun_longer, saves_more, failed_longer, lacks_first, lacks_then, write_fails, last_fails)

-- ---- records of a list, put from its front
pub front_is : (left : List Record) (r : Record) → Some r ≡ first_of left → left ≡ r ∷ tail left
front_is [] r e = absurd (cc)
front_is (x ∷ xs) r e = let is : r ≡ x = cc in ap (λ u. u ∷ xs) (sym is)

pub none_left : (left : List Record) → None ≡ first_of left → left ≡ []
none_left [] e = refl
none_left (x ∷ xs) e = absurd (cc)

-- some were put, and these are left
pub record PutSome {W X : Type 0} (g : Ghosts W) (a b : W) (f : X → List ℕ) (all left : List X) : Type 0 where
  pub done : List X
  pub whole : all ≡ done ++ left
  pub put : HasPut g a b (flat_map f done)

module _ {W X : Type 0} (g : Ghosts W) (f : X → List ℕ) where
  pub some_none : (a : W) (all : List X) → PutSome g a a f all all
  some_none a all = record { done = []; whole = refl; put = put_none g a }

  -- the texts of those that were put, of the next one and of the others
  texts_of : (done left : List X) (x : X) (rest : List X) → left ≡ x ∷ rest → flat_map f (done ++ left) ≡ flat_map f done ++ (f x ++ flat_map f rest)
  texts_of done left x rest e = ap (λ xs. flat_map f (done ++ xs)) e ∙ flat_map-append f done (x ∷ rest)

  pub some_more : (a b c : W) (all left rest : List X) (x : X) → PutSome g a b f all left → left ≡ x ∷ rest → HasPut g b c (f x) → PutSome g a c f all rest
  some_more a b c all left rest x s e p = record {
    done = s.done ++ x ∷ [];
    whole = s.whole ∙ ap (λ xs. s.done ++ xs) e ∙ sym (append_assoc s.done (x ∷ []) rest);
    put = subst (λ t. HasPut g a c t) (sym (flat_map-append f s.done (x ∷ []) ∙ ap (λ t. flat_map f s.done ++ t) (append-nil (f x)))) (put_more s.put p);
  }

  pub some_part : (a b c : W) (all left rest : List X) (x : X) → PutSome g a b f all left → left ≡ x ∷ rest → HasPutPart g b c (f x) → HasPutPart g a c (flat_map f all)
  some_part a b c all left rest x s e p = subst (λ t. HasPutPart g a c t) (sym (ap (flat_map f) s.whole ∙ texts_of s.done left x rest e)) (put_part_more s.put (part_longer (flat_map f rest) p))

  pub some_begun : (a b : W) (all left : List X) → PutSome g a b f all left → HasBegun g a b (flat_map f all)
  some_begun a b all left s = subst (λ t. HasBegun g a b t) (sym (ap (flat_map f) s.whole ∙ flat_map-append f s.done left)) (begun_after g a b (flat_map f s.done) (flat_map f left) s.put)

  pub some_all : (a b : W) (all left : List X) → PutSome g a b f all left → left ≡ [] → HasPut g a b (flat_map f all)
  some_all a b all left s e = subst (λ t. HasPut g a b t) (sym (ap (flat_map f) (s.whole ∙ ap (λ xs. s.done ++ xs) e ∙ append-nil s.done))) s.put

  -- the next one failed
  pub some_failed : (a b c : W) (all left rest : List X) (x : X) (e : SaveFault) → PutSome g a b f all left → left ≡ x ∷ rest → Saves g b c (f x) (Err e) → Saves g a c (flat_map f all) (Err e)
  some_failed a b c all left rest x e s is p =
      saves_same g a c (flat_map f s.done ++ (f x ++ flat_map f rest)) (flat_map f all) (Err e) (sym (ap (flat_map f) s.whole ∙ texts_of s.done left x rest is))
      (saves_more g a b c (flat_map f s.done) (f x ++ flat_map f rest) (Err e) s.put (failed_longer g b c (f x) (flat_map f rest) e p))
