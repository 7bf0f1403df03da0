-- One turn, and turns behind others.
use Rattle.std.proofs.Common.{◌≡◌, ℕ, true, false, List, [], ◌∷◌, ◌++◌, Option, Some, None, refl, sym, ap, subst, ◌∙◌, append_assoc, append-nil}
use Rattle.std.specs.Prelude.{is_some, IfSome}
use Rattle.tab_wire.specs.Heard.{Heard}
use Rattle.tab_wire.specs.Heard as heard
use Rattle.tab_wire.specs.declared.reason.Reason.{Reason}
use Rattle.tab_wire.specs.Stream.{Piece, Frame, Broken, piece_at, pieces_of, AtFront}
use Rattle.tab_wire.specs.Taking.{TakesPart}
use Rattle.tab_wire.specs.Asking.{IsRead, Hears, IsLeft as IsBehind, Asks}
use Rattle.tab_wire.specs.Replies.{Sent, sent_bytes}
use Rattle.tab_serve.specs.declared.service.Service.{Ghosts}
use Rattle.tab_serve.specs.Turns.{Side, Tells, Turns}
use Rattle.tab_serve.specs.Progress.{AnswersAll, AnswersSome, AnswersFront, IsLeft, IsLeftButPart, goes_on}
use Rattle.tab_serve.proofs.Pieces.{next_piece, no_piece, broken_ends}

-- where the connection goes on the rest is left
left_behind : (what : Heard) (behind : List ℕ) (left : Option (List ℕ)) → goes_on what ≡ true → IsBehind what behind left → left ≡ Some behind
left_behind (heard.Request user request) behind left on is = is
left_behind (heard.Bad reason) behind left on is = is
left_behind (heard.Broken reason) behind left on is = absurd cc
left_behind heard.NoMemory behind left on is = is

-- where it doesn't, what was read is no frame
is_broken : (greeted : _) (piece : Piece) (what : Heard) → goes_on what ≡ false → IsRead greeted piece what → (r : Reason) × (piece ≡ Broken r)
is_broken greeted piece (heard.Request user request) off is = absurd cc
is_broken greeted piece (heard.Bad reason) off is = absurd cc
is_broken greeted (Frame body) (heard.Broken reason) off is = absurd is
is_broken greeted (Broken why) (heard.Broken reason) off is = (why, refl)
is_broken greeted piece heard.NoMemory off is = absurd cc

-- pieces behind those in front
at_front_then : (bytes : List ℕ) (ps : List Piece) (mid : List ℕ) (qs : List Piece) (behind : List ℕ) → AtFront bytes ps mid → AtFront mid qs behind → AtFront bytes (ps ++ qs) behind
at_front_then bytes [] mid qs behind first next = subst (λ (m : List ℕ). AtFront m qs behind) first next
at_front_then [] (p ∷ ps) mid qs behind first next = absurd first
at_front_then (b ∷ bytes) (p ∷ ps) mid qs behind first next = (first.0, at_front_then (piece_at (b ∷ bytes)).1 ps mid qs behind first.1 next)

module _ {S : Type 0} (s : Ghosts S) where
  pub turns_then : (a b c : Side S) (ps qs : List Piece) (t u : List ℕ) → Turns s a ps t b → Turns s b qs u c → Turns s a (ps ++ qs) (t ++ u) c
  turns_then a b c [] qs t u first next = subst (λ (x : List ℕ). Turns s a qs (x ++ u) c) (sym first.0) (subst (λ (z : Side S). Turns s z qs u c) first.1 next)
  turns_then a b c (p ∷ ps) qs t u first next =
      (first.0, first.1 ++ u, first.2, first.3, turns_then first.2 b c ps qs first.1 u first.4 next, ap (λ (x : List ℕ). x ++ u) first.5 ∙ append_assoc first.0 first.1 u)

  module _ (old new : Side S) (what : Heard) (told : Sent) (hears : Hears old.user what new.user) (tells : Tells s old.service what told new.service) where
    one : (piece : Piece) → IsRead (is_some old.user) piece what → Turns s old (piece ∷ []) (sent_bytes told) new
    one piece read = (sent_bytes told, [], new, record { what = what; told = told; read = read; by = hears; tells = tells; bytes = refl }, (refl, refl), sym (append-nil (sent_bytes told)))

    module _ (P : List ℕ → Type 0) (holds : P (sent_bytes told)) where
      -- one more piece was answered
      pub one_on : (ahead left : Option (List ℕ)) → goes_on what ≡ true → IfSome ahead (λ bytes. Asks (is_some old.user) bytes (Some what) left) → AnswersFront s old ahead new (IsLeft left) P
      one_on None left on asks = tt
      one_on (Some []) left on asks = let none : Some what ≡ None = asks.0 in absurd cc
      one_on (Some (b ∷ bytes)) left on asks =
          let next : Piece × List ℕ = piece_at (b ∷ bytes) in
          (next.0 ∷ [], next.1, sent_bytes told, left_behind what next.1 left on asks.1, next_piece b bytes, (refl, refl), one next.0 asks.0, holds)

      -- it was the last one
      pub one_last : (ahead left : Option (List ℕ)) → goes_on what ≡ false → IfSome ahead (λ bytes. Asks (is_some old.user) bytes (Some what) left) → AnswersAll s old ahead new P
      one_last None left off asks = tt
      one_last (Some []) left off asks = let none : Some what ≡ None = asks.0 in absurd cc
      one_last (Some (b ∷ bytes)) left off asks =
          let next : Piece × List ℕ = piece_at (b ∷ bytes) in
          let broken = is_broken (is_some old.user) next.0 what off asks.0 in
          let all : pieces_of (b ∷ bytes) ≡ next.0 ∷ [] = next_piece b bytes ∙ ap (λ (rest : List ℕ). next.0 ∷ pieces_of rest) (broken_ends b bytes broken.0 broken.1) ∙ ap (λ (ps : List Piece). next.0 ∷ ps) no_piece in
          (sent_bytes told, subst (λ (ps : List Piece). Turns s old ps (sent_bytes told) new) (sym all) (one next.0 asks.0), holds)

      -- it was answered, whatever is behind it
      pub one_some : (ahead left : Option (List ℕ)) → IfSome ahead (λ bytes. Asks (is_some old.user) bytes (Some what) left) → AnswersSome s old ahead new P
      one_some None left asks = tt
      one_some (Some []) left asks = let none : Some what ≡ None = asks.0 in absurd cc
      one_some (Some (b ∷ bytes)) left asks =
          let next : Piece × List ℕ = piece_at (b ∷ bytes) in
          (next.0 ∷ [], pieces_of next.1, sent_bytes told, next_piece b bytes, one next.0 asks.0, holds)

  -- ---- nothing was answered
  module _ (at : Side S) (P : List ℕ → Type 0) (holds : P []) where
    -- at the end of the stream that is all
    pub none_all : (greeted : _) (ahead left : Option (List ℕ)) → IfSome ahead (λ bytes. Asks greeted bytes None left) → AnswersAll s at ahead at P
    none_all greeted None left asks = tt
    none_all greeted (Some []) left asks = ([], subst (λ (ps : List Piece). Turns s at ps [] at) (sym no_piece) (refl, refl), holds)
    none_all greeted (Some (b ∷ bytes)) left asks = absurd asks

    pub none_some : (ahead : Option (List ℕ)) → AnswersSome s at ahead at P
    none_some None = tt
    none_some (Some bytes) = ([], pieces_of bytes, [], refl, (refl, refl), holds)

    pub none_on : (ahead : Option (List ℕ)) → AnswersFront s at ahead at (IsLeft ahead) P
    none_on None = tt
    none_on (Some bytes) = ([], bytes, [], refl, refl, refl, (refl, refl), holds)

    -- a part of the first piece was taken
    pub none_whole : (ahead left : Option (List ℕ)) → TakesPart ahead left → AnswersFront s at ahead at (IsLeftButPart left) P
    none_whole None left part = tt
    none_whole (Some bytes) left part = ([], bytes, [], part, refl, refl, (refl, refl), holds)

  -- ---- behind what was answered before
  module _ (a b c : Side S) (P Q : List ℕ → Type 0) (F : List ℕ → Type 0) (join : (t u : List ℕ) → F t → P u → Q (t ++ u)) where
    pub then_front : (ahead mid : Option (List ℕ)) (Behind : List ℕ → Type 0) → AnswersFront s a ahead b (IsLeft mid) F → AnswersFront s b mid c Behind P → AnswersFront s a ahead c Behind Q
    then_front None mid Behind first next = tt
    then_front (Some bytes) mid Behind first next =
        let more = subst (λ (m : Option (List ℕ)). AnswersFront s b m c Behind P) first.3 next in (
          first.0 ++ more.0,
          more.1,
          first.2 ++ more.2,
          more.3,
          first.4 ∙ ap (λ (ps : List Piece). first.0 ++ ps) more.4 ∙ sym (append_assoc first.0 more.0 (pieces_of more.1)),
          at_front_then bytes first.0 first.1 more.0 more.1 first.5 more.5,
          turns_then a b c first.0 more.0 first.2 more.2 first.6 more.6,
          join first.2 more.2 first.7 more.7,
        )

    pub then_all : (ahead mid : Option (List ℕ)) → AnswersFront s a ahead b (IsLeft mid) F → AnswersAll s b mid c P → AnswersAll s a ahead c Q
    then_all None mid first next = tt
    then_all (Some bytes) mid first next =
        let more = subst (λ (m : Option (List ℕ)). AnswersAll s b m c P) first.3 next in (
          first.2 ++ more.0,
          subst (λ (ps : List Piece). Turns s a ps (first.2 ++ more.0) c) (sym first.4) (turns_then a b c first.0 (pieces_of first.1) first.2 more.0 first.6 more.1),
          join first.2 more.0 first.7 more.2,
        )

    pub then_some : (ahead mid : Option (List ℕ)) → AnswersFront s a ahead b (IsLeft mid) F → AnswersSome s b mid c P → AnswersSome s a ahead c Q
    then_some None mid first next = tt
    then_some (Some bytes) mid first next =
        let more = subst (λ (m : Option (List ℕ)). AnswersSome s b m c P) first.3 next in (
          first.0 ++ more.0,
          more.1,
          first.2 ++ more.2,
          first.4 ∙ ap (λ (ps : List Piece). first.0 ++ ps) more.3 ∙ sym (append_assoc first.0 more.0 more.1),
          turns_then a b c first.0 more.0 first.2 more.2 first.6 more.4,
          join first.2 more.2 first.7 more.5,
        )
