-- What a compactor asks, one event after another.
use Rattle.std.proofs.Common.{◌≡◌, ℕ, List, [], ◌∷◌, ◌++◌, map, All, refl, sym, ap, ◌∙◌, subst, append_assoc, append-nil}
use Rattle.std.proofs.lemmas.List.{map-append}
use Rattle.std.proofs.lemmas.List.Elements.{All-nil, All-cons, All-append}
use Rattle.tab_book.specs.Receipts.{Slip}
use Rattle.tab_work.specs.Receiving.{spent}
use Rattle.tab_work.specs.Compacting.{Asking, IsAsked, Asks, Keeps, Compacts}
use Rattle.tab_work.proofs.Joining.{follows_join}

-- nothing asked
pub nothing : (a : Asking) → Compacts a a
nothing a = record {
  user = refl;
  events = [];
  slips = [];
  asked = All-nil (IsAsked a.user);
  follows = refl;
  receipts = sym (append-nil a.receipts);
}

pub unchanged : (a b : Asking) → b ≡ a → Compacts a b
unchanged a b same = subst (λ (x : Asking). Compacts a x) (sym same) (nothing a)

-- one event, whose receipt is kept
pub one : (old mid new : Asking) (slip : Slip) → Asks old slip mid → Keeps mid slip new → Compacts old new
one old mid new slip asks keeps = record {
  user = ap (λ (a : Asking). a.user) keeps ∙ asks.user;
  events = asks.event ∷ [];
  slips = slip ∷ [];
  asked = All-cons (IsAsked old.user) asks.event [] (asks.by, asks.kind) (All-nil (IsAsked old.user));
  follows = (mid.seat, asks.receives, ap (λ (a : Asking). a.seat) keeps);
  receipts = ap (λ (a : Asking). a.receipts) keeps ∙ ap (λ (r : List Slip). r ++ spent slip ∷ []) asks.receipts;
}

-- one after another
pub joined : (a b c : Asking) → Compacts a b → Compacts b c → Compacts a c
joined a b c first next = record {
  user = next.user ∙ first.user;
  events = first.events ++ next.events;
  slips = first.slips ++ next.slips;
  asked = All-append (IsAsked a.user) first.events next.events first.asked (subst (λ (u : List ℕ). All (IsAsked u) next.events) first.user next.asked);
  follows = follows_join a.seat b.seat c.seat first.events next.events first.slips next.slips first.follows next.follows;
  receipts = next.receipts ∙ ap (λ (r : List Slip). r ++ map spent next.slips) first.receipts ∙ append_assoc a.receipts (map spent first.slips) (map spent next.slips)
      ∙ ap (λ (r : List Slip). a.receipts ++ r) (sym (map-append spent first.slips next.slips));
}
