use Rattle.std.proofs.Common.{[], ◌∷◌, refl, arith}
use Rattle.std.specs.Io.KnownBytes.{Consumes}
use Rattle.tab_key.proofs.Bodies.{at_err}
use Rattle.tab_wire.specs.Taking.{TakesFewer}
use Rattle.tab_wire.proofs.Taking.{byte_more, no_more}
use Rattle.std.proofs.KnownBytes.{Consumes-nil, Consumes-kept}
use Rattle.tab_wire.proofs.head.take_head.Goals as goal

pub returns-in_default-2-clause-bytes : goal.returns-in_default-2-clause-bytes
returns-in_default-2-clause-bytes g c =
    let one : Consumes (g.R.Input.remaining c.args.input.now) (g.R.Input.remaining c.next_byte.new.input) (c.in-Some.first ∷ []) = byte_more _ _ _ [] _ c.in-Some.first (Consumes-nil _) c.in_ok-first.ensures.bytes c.in-Some.is in
    (c.in-Some.first ∷ [], omega arith, omega arith, no_more _ _ _ _ _ one c.in_ok-second.ensures.bytes c.in_default-2.is)

pub returns-in_default-3-clause-bytes : goal.returns-in_default-3-clause-bytes
returns-in_default-3-clause-bytes g c =
    let one : Consumes (g.R.Input.remaining c.args.input.now) (g.R.Input.remaining c.next_byte.new.input) (c.in-Some.first ∷ []) = byte_more _ _ _ [] _ c.in-Some.first (Consumes-nil _) c.in_ok-first.ensures.bytes c.in-Some.is in
    let two = byte_more _ _ _ _ _ c.in-Some-2.second one c.in_ok-second.ensures.bytes c.in-Some-2.is in
    (c.in-Some.first ∷ c.in-Some-2.second ∷ [], omega arith, omega arith, no_more _ _ _ _ _ two c.in_ok-third.ensures.bytes c.in_default-3.is)

pub returns-in_default-4-clause-bytes : goal.returns-in_default-4-clause-bytes
returns-in_default-4-clause-bytes g c =
    let one : Consumes (g.R.Input.remaining c.args.input.now) (g.R.Input.remaining c.next_byte.new.input) (c.in-Some.first ∷ []) = byte_more _ _ _ [] _ c.in-Some.first (Consumes-nil _) c.in_ok-first.ensures.bytes c.in-Some.is in
    let two = byte_more _ _ _ _ _ c.in-Some-2.second one c.in_ok-second.ensures.bytes c.in-Some-2.is in
    let three = byte_more _ _ _ _ _ c.in-Some-3.third two c.in_ok-third.ensures.bytes c.in-Some-3.is in
    (c.in-Some.first ∷ c.in-Some-2.second ∷ c.in-Some-3.third ∷ [], omega arith, omega arith, no_more _ _ _ _ _ three c.in_ok-fourth.ensures.bytes c.in_default-4.is)

pub returns-clause-bytes : goal.returns-clause-bytes
returns-clause-bytes g c =
    let one : Consumes (g.R.Input.remaining c.args.input.now) (g.R.Input.remaining c.next_byte.new.input) (c.in-Some.first ∷ []) = byte_more _ _ _ [] _ c.in-Some.first (Consumes-nil _) c.in_ok-first.ensures.bytes c.in-Some.is in
    let two = byte_more _ _ _ _ _ c.in-Some-2.second one c.in_ok-second.ensures.bytes c.in-Some-2.is in
    let three = byte_more _ _ _ _ _ c.in-Some-3.third two c.in_ok-third.ensures.bytes c.in-Some-3.is in
    (c.in-Some.first ∷ c.in-Some-2.second ∷ c.in-Some-3.third ∷ c.in-Some-4.fourth ∷ [], refl, c.from_be_bytes.ensures, byte_more _ _ _ _ _ c.in-Some-4.fourth three c.in_ok-fourth.ensures.bytes c.in-Some-4.is)

pub returns-in_err-second-clause-err : goal.returns-in_err-second-clause-err
returns-in_err-second-clause-err g c =
    let one : Consumes (g.R.Input.remaining c.args.input.now) (g.R.Input.remaining c.next_byte.new.input) (c.in-Some.first ∷ []) = byte_more _ _ _ [] _ c.in-Some.first (Consumes-nil _) c.in_ok-first.ensures.bytes c.in-Some.is in
    let left : TakesFewer 4 (g.R.Input.remaining c.args.input.now) (g.R.Input.remaining c.next_byte-2.new.input) = (c.in-Some.first ∷ [], omega arith, Consumes-kept _ _ _ _ one c.in_err-second.ensures.err) in
    at_err _ left

pub returns-in_err-third-clause-err : goal.returns-in_err-third-clause-err
returns-in_err-third-clause-err g c =
    let one : Consumes (g.R.Input.remaining c.args.input.now) (g.R.Input.remaining c.next_byte.new.input) (c.in-Some.first ∷ []) = byte_more _ _ _ [] _ c.in-Some.first (Consumes-nil _) c.in_ok-first.ensures.bytes c.in-Some.is in
    let two = byte_more _ _ _ _ _ c.in-Some-2.second one c.in_ok-second.ensures.bytes c.in-Some-2.is in
    let left : TakesFewer 4 (g.R.Input.remaining c.args.input.now) (g.R.Input.remaining c.next_byte-3.new.input) = (c.in-Some.first ∷ c.in-Some-2.second ∷ [], omega arith, Consumes-kept _ _ _ _ two c.in_err-third.ensures.err) in
    at_err _ left

pub returns-in_err-fourth-clause-err : goal.returns-in_err-fourth-clause-err
returns-in_err-fourth-clause-err g c =
    let one : Consumes (g.R.Input.remaining c.args.input.now) (g.R.Input.remaining c.next_byte.new.input) (c.in-Some.first ∷ []) = byte_more _ _ _ [] _ c.in-Some.first (Consumes-nil _) c.in_ok-first.ensures.bytes c.in-Some.is in
    let two = byte_more _ _ _ _ _ c.in-Some-2.second one c.in_ok-second.ensures.bytes c.in-Some-2.is in
    let three = byte_more _ _ _ _ _ c.in-Some-3.third two c.in_ok-third.ensures.bytes c.in-Some-3.is in
    let left : TakesFewer 4 (g.R.Input.remaining c.args.input.now) (g.R.Input.remaining c.next_byte-4.new.input) = (c.in-Some.first ∷ c.in-Some-2.second ∷ c.in-Some-3.third ∷ [], omega arith, Consumes-kept _ _ _ _ three c.in_err-fourth.ensures.err) in
    at_err _ left
