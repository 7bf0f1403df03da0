-- What the newest event is told in two histories that look alike to its user.
use Rattle.std.proofs.Common.{◌≡◌, ℕ, List, [], ◌∷◌, sym, ◌∙◌, ap, refl}
use Rattle.tab_history.specs.Histories.{Entry, World, world_of}
use Rattle.tab_noninterference.specs.Hearing.{Heard, heard}
use Rattle.tab_server_law.specs.ServerNoninterference.{IsHeardBy, list_in, LastAlike}
use Rattle.tab_server_law.proofs.TwoBases.{two_worlds_over}

-- what is heard of it
abbrev of_it : World → Entry → List Entry → Heard
of_it w e es = record { reply = e.reply; list = list_in w e es }

heard_first : (user : List ℕ) (w : World) (e : Entry) (es : List Entry) → IsHeardBy user e → heard user w (e ∷ es) ≡ of_it w e es ∷ heard user w es
unfolding heard
heard_first user w e es is = rw (is.0, is.1) refl

abbrev first_or : Heard → List Heard → Heard
first_or d [] = d
first_or d (x ∷ xs) = x

pub newest_told : LastAlike
newest_told user b e h c f k p q alike is is' =
    let told : of_it (world_of b) e h ∷ heard user (world_of b) h ≡ of_it (world_of c) f k ∷ heard user (world_of c) k =
    sym (heard_first user (world_of b) e h is) ∙ two_worlds_over user b (e ∷ h) c (f ∷ k) p q alike ∙ heard_first user (world_of c) f k is' in
    let first : of_it (world_of b) e h ≡ of_it (world_of c) f k = ap (first_or (of_it (world_of b) e h)) told in
    (ap (λ (x : Heard). x.reply) first, ap (λ (x : Heard). x.list) first)
