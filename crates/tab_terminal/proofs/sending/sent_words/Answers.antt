use Rattle.std.proofs.Common.{rules, ◌≡◌, ℕ, suc, ◌+◌, ◌<◌, length, List, ◌∷◌, drop, get_or, refl, sym, ap, ◌∙◌, arith, Ok}
use Rattle.std.proofs.Math.Seq.{drop-cons}
use Rattle.tab_terminal.specs.Typing.{behind, sent, typed, PutsTyped}
use Rattle.tab_terminal.proofs.Behind.{sent_on}
use Rattle.tab_terminal.proofs.sending.sent_words.Goals as goal

pub loop-byte-preserved : goal.loop-byte-preserved
loop-byte-preserved c =
    let l = c.loop-byte in
    let line = c.args.line.now in
    let byte = get_or line l.byte-index 0 in
    let within : l.byte-index < length line = search rules in
    let puts : PutsTyped l.text.items c.put_typed.new.text.items (Ok c.in-Ok.next) (typed l.place byte) = search rules in
    let on = sent_on l.text.items c.put_typed.new.text.items l.place c.in-Ok.next byte (drop (suc l.byte-index) line) (typed l.place byte) refl puts in
    let rest : drop l.byte-index line ≡ byte ∷ drop (suc l.byte-index) line = drop-cons line l.byte-index 0 within in
    let one : l.byte-index + 1 ≡ suc l.byte-index = omega arith in
    record { sends = ap (λ k. behind c.put_typed.new.text.items (sent c.in-Ok.next (drop k line))) one ∙ on ∙ ap (λ bs. behind l.text.items (sent l.place bs)) (sym rest) ∙ l.invariant.sends }
