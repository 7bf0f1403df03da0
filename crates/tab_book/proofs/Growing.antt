-- A book with an entry more.
use Rattle.std.proofs.Common.{◌≡◌, ℕ, ◌+◌, ◌^◌, ◌<◌, ◌≤◌, Option, List, [], ◌∷◌, ◌++◌, length, length-append, refl, sym, ap, ◌∙◌, subst, arith}
use Rattle.tab_core.specs.OpenSession.{OpenSession}
use Rattle.tab_core.specs.Parts.{TabletMerge}
use Rattle.tab_history.specs.Bases.{Base}
use Rattle.tab_history.specs.Answers.{told_of}
use Rattle.tab_history.specs.Histories.{Entry}
use Rattle.tab_history.specs.declared.event.Event.{Event}
use Rattle.tab_history.specs.declared.reply.Reply.{Reply}
use Rattle.tab_core.specs.Stores.{CoreContents}
use Rattle.tab_core.specs.Recording.{RefinesHistory, IsLegalFrom, StepsOn, entry_of}
use Rattle.tab_core.proofs.Recorded.{legal_empty}
use Rattle.tab_book.specs.Entries.{Posted, extend, past, IsKept}

extend-append : (h : List Entry) (ps : List Posted) (p : Posted) → extend h (ps ++ p ∷ []) ≡ entry_of p.event p.reply ∷ extend h ps
extend-append h [] p = refl
extend-append h (q ∷ ps) p = extend-append (entry_of q.event q.reply ∷ h) ps p

-- the history with one entry behind the others
pub past_more : (ps : List Posted) (p : Posted) → past (ps ++ p ∷ []) ≡ entry_of p.event p.reply ∷ past ps
past_more ps p = extend-append [] ps p

-- the entry of an event that was told so
pub kept_more : (base : Base) (first : ℕ) (ps now : List Posted) (p : Posted) (old new : CoreContents) (joined out parts rest total total' : ℕ) (given : Option TabletMerge) (event : Event) (reply : Reply OpenSession TabletMerge)
    → IsKept base first ps old joined out parts rest total → StepsOn old given event reply new → now ≡ ps ++ p ∷ [] → p.event ≡ event → p.reply ≡ told_of reply → first + length ps + 1 < 2 ^ 64 → total' ≡ total + 1
    → IsKept base first now new joined out parts rest total'
kept_more base first ps now p old new joined out parts rest total total' given event reply kept steps is asked told room one =
    let same : entry_of p.event p.reply ≡ entry_of event (told_of reply) = λ i. entry_of (asked i) (told i) in
    let h : past now ≡ entry_of event (told_of reply) ∷ past ps = ap past is ∙ past_more ps p ∙ ap (λ e. e ∷ past ps) same in
    let n : length now ≡ length ps + 1 = ap length is ∙ length-append ps (p ∷ []) in
    record {
      legal = subst (IsLegalFrom base) (sym h) (steps.legal base (past ps) kept.refines kept.legal);
      refines = subst (RefinesHistory new base) (sym h) (steps.refines base (past ps) kept.refines);
      counted = omega (arith, one, kept.counted, n);
      fits = omega (arith, room, n);
      cut = kept.cut;
      enough = kept.enough;
      known = kept.known;
    }

-- a book without entries
pub kept_empty : (base : Base) (first : ℕ) (entries : List Posted) (core : CoreContents) (joined out parts rest total : ℕ) → entries ≡ [] → RefinesHistory core base [] → total ≡ first → first < 2 ^ 64 → rest + out ≡ parts → 2 ^ 32 ≤ parts → out ≤ joined
    → IsKept base first entries core joined out parts rest total
kept_empty base first entries core joined out parts rest total none refines counted fits cut enough known =
    let n : length entries ≡ 0 = ap length none in
    record {
      legal = subst (λ ps. IsLegalFrom base (past ps)) (sym none) (legal_empty base);
      refines = subst (λ ps. RefinesHistory core base (past ps)) (sym none) refines;
      counted = omega (arith, counted, n);
      fits = omega (arith, fits, n);
      cut = cut;
      enough = enough;
      known = known;
    }
