use Rattle.std.proofs.Common.{◌∙◌, sym, ℕ, bytes_eq, Vec}
use Rattle.std.specs.declared.alloc.Global.{Global}
use Rattle.std.specs.Cmp.Lexicographic.{pointwise}
use Rattle.std.specs.Cmp.Derive.Mapped.{pointwise-map}
use Rattle.tab_label.proofs.auths.AuthSetPartialEq.eq.Goals as goal

pub returns : goal.returns
returns c = c.eq.ensures ∙ sym (pointwise-map (λ (v : Vec ℕ Global). v.items) bytes_eq c.terms.result.now c.terms-2.result.now) ∙ (λ i. pointwise bytes_eq (c.terms.ensures.all i) (c.terms-2.ensures.all i))
