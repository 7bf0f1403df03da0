-- A whole connection makes a legal history.
use Rattle.std.proofs.Common.{◌≡◌, ℕ, List, [], ◌∷◌, ◌++◌, Some, None, sym, subst, ◌∙◌, append_assoc, inl, inr}
use Rattle.tab_history.specs.Histories.{Entry, World, moves_of}
use Rattle.tab_history.specs.Legal.{Legal}
use Rattle.tab_wire.specs.declared.request.Request.{Request}
use Rattle.tab_wire.specs.declared.request.Request.TheVariants as asks
use Rattle.tab_wire.specs.Heard.{Heard}
use Rattle.tab_wire.specs.Heard as heard
use Rattle.tab_codec.proofs.Exact.{some_inj}
use Rattle.tab_wire.specs.Asking.{Hears, IsBy}
use Rattle.tab_wire.specs.Talking.{Talk, Exchange, IsQuiet, Does, Answers, entries_of}
use Rattle.tab_wire.specs.Replies.{Sent}
use Rattle.tab_wire.specs.TalkLaws.{KnowsSessions, IsRight, TalksStayLegal}
use Rattle.tab_wire.proofs.OwnSteps.{StaysLegal, act_stays, next_stays, many_stays, close_stays}

abbrev Stays : World → List Entry → Exchange → Talk → Type 0
Stays w h x next = Legal w (x.entries ++ h) × KnowsSessions w (x.entries ++ h) next

module _ (w : World) (h : List Entry) (talk : Talk) (x : Exchange) (legal : Legal w h) (knows : KnowsSessions w h talk) where
  -- no entry, and nothing else
  nothing : (next : Talk) (text : Sent) → next.user ≡ talk.user → IsQuiet x text × (next.moves ≡ talk.moves) → Stays w h x next
  nothing next text same is =
      subst (λ (es : List Entry). Legal w (es ++ h) × KnowsSessions w (es ++ h) next) (sym is.0.entries)
      (legal, λ user by. knows user (elim by [ inl some ↦ inl (sym same ∙ some) | inr none ↦ inr (sym same ∙ none) ]) ∙ sym is.1)

  -- Hello, and no entry
  greeted : (next : Talk) (text : Sent) → talk.user ≡ None → IsQuiet x text × (next.moves ≡ talk.moves) → Stays w h x next
  greeted next text none is =
      subst (λ (es : List Entry). Legal w (es ++ h) × KnowsSessions w (es ++ h) next) (sym is.0.entries)
      (legal, λ user by. knows user (inr none) ∙ sym is.1)

  -- one more step of the user
  goes : (user : List ℕ) (next : Talk) → next.user ≡ Some user → StaysLegal w h user x next.moves → Stays w h x next
  goes user next by is = (
    is.legal,
    λ other how. elim how [
      | inl some ↦ subst (λ (u : List ℕ). moves_of w u (x.entries ++ h) ≡ next.moves) (some_inj user other (sym by ∙ some)) is.sessions
      | inr none ↦ let never : Some user ≡ None = sym by ∙ none in absurd cc
    ],
  )

  does : (user : List ℕ) (request : Request) (next : Talk) → IsRight w h x → IsBy talk.user user request → next.user ≡ Some user → Does user talk.moves request x next.moves → Stays w h x next
  does user (asks.Hello name) next right by after d = greeted next _ by.0 d
  does user (asks.Act act) next right by after d = goes user next after (act_stays w h user talk.moves x legal (knows user (inl by)) act next.moves right d)
  does user (asks.Next slot n) next right by after d = goes user next after (next_stays w h user talk.moves x legal (knows user (inl by)) slot n next.moves d)
  does user (asks.Many slot ranges) next right by after d = goes user next after (many_stays w h user talk.moves x legal (knows user (inl by)) slot ranges next.moves d)
  does user (asks.Close slot) next right by after d = goes user next after (close_stays w h user talk.moves x legal (knows user (inl by)) slot next.moves d)

  speaks : (what : Heard) (next : Talk) → IsRight w h x → Hears talk.user what next.user → Answers talk.moves what x next.moves → Stays w h x next
  speaks (heard.Request user request) next right hears a = does user request next right hears.0 hears.1 a
  speaks (heard.Bad reason) next right hears a = nothing next _ hears a
  speaks (heard.Broken reason) next right hears a = nothing next _ hears a
  speaks heard.NoMemory next right hears a = nothing next _ hears a

pub talks_stay : TalksStayLegal
talks_stay w h talk [] [] last legal knows t right = (legal, subst (λ (z : Talk). KnowsSessions w h z) (sym t) knows)
talks_stay w h talk [] (x ∷ xs) last legal knows t right = absurd t
talks_stay w h talk (piece ∷ pieces) [] last legal knows t right = absurd t
talks_stay w h talk (piece ∷ pieces) (x ∷ xs) last legal knows t right =
    let next : Talk = t.0 in
    let one = speaks w h talk x legal knows x.what next right.0 t.2.by t.2.does in
    let all = talks_stay w (x.entries ++ h) next pieces xs last one.0 one.1 t.3 right.1 in
    subst (λ (es : List Entry). Legal w es × KnowsSessions w es last) (sym (append_assoc (entries_of xs) x.entries h)) all
