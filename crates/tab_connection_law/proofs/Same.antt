-- Exchanges that are alike are told the same, and leave the same sessions.
use Rattle.std.proofs.Common.{◌≡◌, ◌⊎◌, inl, inr, ℕ, ℤ, cond, List, [], ◌∷◌, ◌++◌, map, refl, sym, ◌∙◌, ap, subst}
use mathlib.Core.Bool.{true≢false}
use Rattle.tab_key.specs.Records.{Cell}
use Rattle.tab_history.specs.declared.event.Act.{Act}
use Rattle.tab_history.specs.declared.event.Step.{Step}
use Rattle.tab_history.specs.declared.event.Step.TheVariants as step
use Rattle.tab_history.specs.declared.reply.Reply.TheVariants as reply
use Rattle.tab_history.specs.Answers.{Told, told_opened, is_open, next_answer, many_answer, close_answer}
use Rattle.tab_history.specs.Sessions.{Move, Opening, opened, session_in}
use Rattle.tab_history.specs.Histories.{Entry}
use Rattle.tab_history.specs.Legal.{HasMemory, LacksMemory}
use Rattle.tab_wire.specs.declared.request.Request.TheVariants as asks
use Rattle.tab_wire.specs.Heard.{Heard}
use Rattle.tab_wire.specs.Heard as heard
use Rattle.tab_wire.specs.Stream.{Piece}
use Rattle.tab_wire.specs.Replies.{Sent, sent_of, sent_bytes}
use Rattle.tab_wire.specs.Talking.{Talk, new_talk, Exchange, IsQuiet, DoesAct, DoesOwn, Answers, Talks, event, moves_told, replied}
use Rattle.tab_connection_law.specs.SameReplies.{ActAlike, AreAlike, AllAlike, SameReplies, answers_in}

-- what two exchanges were told, and what each leaves of sessions
abbrev ToldAlike : Exchange → Exchange → List Move → List Move → Type 0
ToldAlike x y m n = (x.told ≡ y.told) × (m ≡ n)

quiet_alike : (moves m n : List Move) (x y : Exchange) (text : Sent) → IsQuiet x text × (m ≡ moves) → IsQuiet y text × (n ≡ moves) → ToldAlike x y m n
quiet_alike moves m n x y text p q = (p.0.told ∙ sym q.0.told, p.1 ∙ sym q.1)

-- ---- an act
-- a moment tells nothing of sessions
any_moment : (user : List ℕ) (moment moment' : ℤ) (act : Act) (r : Told) (all : List Cell) → moves_told (event user moment act) r all ≡ moves_told (event user moment' act) r all
any_moment user moment moment' act (reply.Opened session) all = refl
any_moment user moment moment' act _ all = refl

-- and only an Open that was accepted reads the whole list
one_list : (user : List ℕ) (moment : ℤ) (act : Act) (r : Told) (all all' : List Cell) → (r ≡ told_opened → all ≡ all') → moves_told (event user moment act) r all ≡ moves_told (event user moment act) r all'
one_list user moment act (reply.Opened session) all all' same = ap (λ l. cond (is_open act) (Opening l ∷ []) []) (same refl)
one_list user moment act _ all all' same = refl

abbrev first_or : Told → List Told → Told
first_or d [] = d
first_or d (r ∷ rs) = r

act_alike : (user : List ℕ) (moves m n : List Move) (act : Act) (x y : Exchange) → DoesAct user moves act x m → DoesAct user moves act y n → ActAlike x y → ToldAlike x y m n
act_alike user moves m n act x y (inl p) (inl q) alike = (p.1.told ∙ sym q.1.told, p.2 ∙ sym q.2)
act_alike user moves m n act x y (inl p) (inr q) alike = absurd (true≢false (sym p.0 ∙ q.0))
act_alike user moves m n act x y (inr p) (inl q) alike = absurd (true≢false (sym q.0 ∙ p.0))
act_alike user moves m n act x y (inr (room, (moment, r, one, after))) (inr q) (inl none) = let e : moment ∷ [] ≡ [] = sym one.moments ∙ none in absurd (cc)
act_alike user moves m n act x y (inr (room, (moment, r, one, after))) (inr (room', (moment', r', one', after'))) (inr (told, all)) =
    let first : answers_in x ≡ r ∷ [] = ap (map (λ (e : Entry). e.reply)) one.entries in
    let second : answers_in y ≡ r' ∷ [] = ap (map (λ (e : Entry). e.reply)) one'.entries in
    let same : r ≡ r' = ap (first_or r) (sym first ∙ told ∙ second) in
    let lists : r ≡ told_opened → x.all ≡ y.all = λ opens. all (first ∙ ap (λ t. t ∷ []) opens) in
    let moved : moves_told (event user moment act) r x.all ≡ moves_told (event user moment' act) r' y.all =
    any_moment user moment moment' act r x.all ∙ one_list user moment' act r x.all y.all lists ∙ ap (λ t. moves_told (event user moment' act) t y.all) same in
    (one.told ∙ ap (sent_of (opened moves) 0) same ∙ sym one'.told, after ∙ ap (λ ms. ms ++ moves) moved ∙ sym after')

-- ---- what is asked of a session
-- it has its one answer, where memory doesn't lack
one_answer : (s : Step) (right r : Told) (es : List Entry) → es ≡ record { step = s; reply = r } ∷ [] → HasMemory es → (r ≡ right) ⊎ LacksMemory s r → r ≡ right
one_answer s right r es is memory (inl e) = e
one_answer s right r es is memory (inr lacks) = absurd ((subst HasMemory is memory).1 lacks.1)

own_alike : (moves m n : List Move) (s : Step) (k : ℕ) (right : Told) (x y : Exchange) → DoesOwn moves s k right x m → DoesOwn moves s k right y n → HasMemory x.entries → HasMemory y.entries → ToldAlike x y m n
own_alike moves m n s k right x y (r, answer, one, after) (r', answer', one', after') memory memory' =
    let same : r ≡ r' = one_answer s right r x.entries one.entries memory answer ∙ sym (one_answer s right r' y.entries one'.entries memory' answer') in
    (one.told ∙ ap (sent_of (opened moves) k) same ∙ sym one'.told, after ∙ ap (λ t. moves_told s t [] ++ moves) same ∙ sym after')

-- ---- one exchange, and all
one_alike : (moves m n : List Move) (what : Heard) (x y : Exchange) → Answers moves what x m → Answers moves what y n → AreAlike what x y → ToldAlike x y m n
one_alike moves m n (heard.Request user (asks.Hello name)) x y p q a = quiet_alike moves m n x y _ p q
one_alike moves m n (heard.Request user (asks.Act act)) x y p q a = act_alike user moves m n act x y p q a
one_alike moves m n (heard.Request user (asks.Next slot k)) x y p q a = own_alike moves m n (step.Next user slot k) k (next_answer (session_in moves slot) slot k) x y p q a.0 a.1
one_alike moves m n (heard.Request user (asks.Many slot ranges)) x y p q a = own_alike moves m n (step.Many user slot ranges) 0 (many_answer (session_in moves slot) slot ranges) x y p q a.0 a.1
one_alike moves m n (heard.Request user (asks.Close slot)) x y p q a = own_alike moves m n (step.Close user slot) 0 (close_answer (session_in moves slot) slot) x y p q a.0 a.1
one_alike moves m n (heard.Bad reason) x y p q a = quiet_alike moves m n x y _ p q
one_alike moves m n (heard.Broken reason) x y p q a = quiet_alike moves m n x y _ p q
one_alike moves m n heard.NoMemory x y p q a = quiet_alike moves m n x y _ p q

from_here : (pieces pieces' : List Piece) (xs ys : List Exchange) (s t last last' : Talk) → s.moves ≡ t.moves → Talks s pieces xs last → Talks t pieces' ys last' → AllAlike xs ys → replied xs ≡ replied ys
from_here [] [] [] [] s t last last' e p q alike = refl
from_here [] (piece ∷ pieces') [] [] s t last last' e p q alike = refl
from_here (piece ∷ pieces) [] [] [] s t last last' e p q alike = refl
from_here (piece ∷ pieces) (piece' ∷ pieces') [] [] s t last last' e p q alike = refl
from_here pieces pieces' [] (y ∷ ys) s t last last' e p q alike = absurd alike
from_here pieces pieces' (x ∷ xs) [] s t last last' e p q alike = absurd alike
from_here [] pieces' (x ∷ xs) (y ∷ ys) s t last last' e p q alike = absurd p
from_here (piece ∷ pieces) [] (x ∷ xs) (y ∷ ys) s t last last' e p q alike = absurd q
from_here (piece ∷ pieces) (piece' ∷ pieces') (x ∷ xs) (y ∷ ys) s t last last' e p q alike =
    let there : Answers s.moves x.what y (q.0).moves = subst (λ (ms : List Move). Answers ms x.what y (q.0).moves) (sym e) (subst (λ (w : Heard). Answers t.moves w y (q.0).moves) (sym alike.0) q.2.does) in
    let both : ToldAlike x y (p.0).moves (q.0).moves = one_alike s.moves (p.0).moves (q.0).moves x.what x y p.2.does there alike.1 in
    let rest : replied xs ≡ replied ys = from_here pieces pieces' xs ys p.0 q.0 last last' both.1 p.3 q.3 alike.2 in
    λ i. sent_bytes (both.0 i) ++ rest i

pub all_alike : SameReplies
all_alike pieces pieces' xs ys last last' p q alike = from_here pieces pieces' xs ys new_talk new_talk last last' refl p q alike
