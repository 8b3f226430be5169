use Rattle.std.proofs.Common.{◌≡◌, ◌∷◌, [], map, refl, subst, sym}
use Rattle.command_lines.proofs.FirstWords.{IsWay, no_way, use_none}
use Rattle.command_lines.specs.Words.{IsName, WritesBits}
use Rattle.command_lines.proofs.command_line.use_policy.Goals as goal

pub returns-in_err-way : goal.returns-in_err-way
returns-in_err-way c = rw c.from_residual.ensures (use_none _ (λ way slot policy is_way is. let one = is.1 in let other = c.in_err-way.ensures in cc))

pub returns-in_err-number : goal.returns-in_err-number
returns-in_err-number c = rw c.from_residual-in_err-number.ensures (use_none _ (λ way slot policy is_way is.
    let same : map (λ word. word.now) c.in_ok-way.words.now ≡ is.0 ∷ policy ∷ [] = let one = is.1 in let other = c.in_ok-way.ensures in cc in
    c.in_err-number.ensures is.0 policy same))

pub returns-in_err-slot : goal.returns-in_err-slot
returns-in_err-slot c = rw c.from_residual-in_err-slot.ensures (use_none _ (λ way slot policy is_way is.
    let same : is.0 ≡ c.in_ok-number.number.now = let one = is.1 in let other = c.in_ok-way.ensures in let third = c.in_ok-number.ensures in cc in
    c.in_err-slot.ensures slot (subst (λ word. WritesBits 8 word slot) same is.2)))

pub returns-in_err-name : goal.returns-in_err-name
returns-in_err-name c = rw c.from_residual-in_err-name.ensures (use_none _ (λ way slot policy is_way is.
    let same : policy ≡ c.in_ok-number.policy.now = let one = is.1 in let other = c.in_ok-way.ensures in let third = c.in_ok-number.ensures in cc in
    c.in_err-name.ensures (subst (λ word. IsName word) same is.3)))

pub returns-then-is_word : goal.returns-then-is_word
returns-then-is_word c =
    let way = rw c.if-is_word.true at c.is_word.ensures in
    (_, refl, (c.in_ok-number.number.now, let one = c.in_ok-way.ensures in let other = c.in_ok-number.ensures in let third = c.in_ok-name.ensures.0 in cc, c.in_ok-slot.ensures, c.in_ok-name.ensures.1))

pub returns-then-is_word-2 : goal.returns-then-is_word-2
returns-then-is_word-2 c =
    let way = rw c.if-is_word-2.true at c.is_word-2.ensures in
    (_, refl, (c.in_ok-number.number.now, let one = c.in_ok-way.ensures in let other = c.in_ok-number.ensures in let third = c.in_ok-name.ensures.0 in cc, c.in_ok-slot.ensures, c.in_ok-name.ensures.1))

pub returns : goal.returns
returns c = use_none _ (λ way slot policy is_way is.
    let same : c.in_ok-way.way.now ≡ way = let one = is.1 in let other = c.in_ok-way.ensures in cc in
    no_way c.in_ok-way.way.now (rw c.if-is_word.false at c.is_word.ensures) (rw c.if-is_word-2.false at c.is_word-2.ensures) (subst (λ word. IsWay word) (sym same) is_way))
