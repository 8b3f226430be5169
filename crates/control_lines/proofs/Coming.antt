-- No octet of an operator is lost, and none comes twice.
use Rattle.std.proofs.Common.{◌≡◌, ◌≢◌, ◌==◌, ◌≤◌, ◌&&◌, ◌++◌, ◌∷◌, ◌∙◌, if◌then◌else◌, inl, inr, ℕ, Bool, true, false, not, List, [], Option, None, Some, length, take, drop, refl, sym, ap, subst, arith}
use Rattle.std.specs.Io.KnownBytes.{Appends, Consumes, Keeps}
use Rattle.std.proofs.Math.Seq.{drop-length}
use Rattle.std.proofs.lemmas.Bool.{false≢true}
use Rattle.std.proofs.lemmas.List.{append-nil, append_assoc, length-take, take-append-drop}
use Rattle.control_lines.specs.Coming.{AnswersTakeTheirLine, VisitsLoseNone, VisitsWriteInOrder, line_so_far, unanswered}
use Rattle.control_lines.proofs.Resting.{keeps}
use Rattle.control_lines.specs.Lines.{GathersLine, line_feed}
use Rattle.control_lines.specs.Talks.{Follows, Hears, Says, SaysIf, Writes, awaits_line, shown_wish, wish_behind}
use Rattle.control_lines.specs.declared.line_buffer.Heard.{Heard}
use Rattle.control_lines.specs.declared.line_buffer.Heard.TheVariants.{Part, Whole, TooLong}
use Rattle.control_lines.specs.declared.talk.Talk.{Talk}
use Rattle.control_lines.specs.declared.talk.Wish.{Wish}
use Rattle.control_lines.specs.declared.talk.Wish.TheVariants.{Nothing, Answer, More}

awaited : (wish : Wish) → awaits_line wish ≡ true → wish ≡ Nothing
awaited Nothing is = refl
awaited Answer is = absurd cc
awaited More is = absurd cc

-- of the octets of a line that goes on or is whole then, none is lost
gathered : (heard : Heard) (count : ℕ) (octets : List ℕ) (old new : Talk) → old.wish ≡ Nothing → new.is_leaving ≡ false → GathersLine old.line octets count heard new.line → new.chunk ≡ drop count octets → Follows heard old new
    → unanswered new ≡ old.line ++ octets
gathered Part count octets old new none stays gathers left follows =
    ap (λ (wish : Wish). line_so_far wish new.line ++ new.chunk) (follows.0 ∙ none)
    ∙ (ap (λ (line : List ℕ). line ++ new.chunk) gathers.2
    ∙ (ap (λ (chunk : List ℕ). old.line ++ octets ++ chunk) (left ∙ (ap (λ (n : ℕ). drop n octets) gathers.0 ∙ drop-length octets)) ∙ append-nil (old.line ++ octets)))
gathered Whole count octets old new none stays gathers left follows =
    ap (λ (wish : Wish). line_so_far wish new.line ++ new.chunk) follows.0
    ∙ (ap (λ (line : List ℕ). line ++ line_feed ∷ [] ++ new.chunk) gathers.3
    ∙ (ap (λ (line : List ℕ). line ++ new.chunk) (append_assoc old.line gathers.0 (line_feed ∷ []))
    ∙ (append_assoc old.line (gathers.0 ++ line_feed ∷ []) new.chunk
    ∙ ap (λ (behind : List ℕ). old.line ++ behind)
    (ap (λ (front : List ℕ). front ++ new.chunk) (sym gathers.1) ∙ (ap (λ (chunk : List ℕ). take count octets ++ chunk) left ∙ take-append-drop count octets)))))
gathered TooLong count octets old new none stays gathers left follows = absurd (false≢true (sym stays ∙ follows.1))

heard : (octets : List ℕ) (old new : Talk) → old.wish ≡ Nothing → new.is_leaving ≡ false → Hears octets old new → unanswered new ≡ old.line ++ octets
heard octets old new none stays hears = gathered hears.heard hears.count octets old new none stays hears.gathers hears.left hears.follows

at_rest : (old : Talk) → old.wish ≡ Nothing → unanswered old ≡ old.line ++ old.chunk
at_rest old none = ap (λ (wish : Wish). line_so_far wish old.line ++ old.chunk) none

-- where nothing was read, no octets came
nothing_came : (before after : Option (List ℕ)) → Keeps before after → Consumes before after []
nothing_came None after keeps = tt
nothing_came (Some had) None keeps = keeps
nothing_came (Some had) (Some has) keeps = sym keeps

unread_came : (before after : Option (List ℕ)) → after ≡ before → Consumes before after []
unread_came before after same = nothing_came before after (subst (λ (there : Option (List ℕ)). Keeps before there) (sym same) (keeps before))

pub visits_lose_none : VisitsLoseNone
visits_lose_none false old new before after taken behind rests stays = ([], nothing_came before after rests.1, ap unanswered rests.0 ∙ sym (append-nil (unanswered old)))
visits_lose_none true old new before after taken behind (inl writes) stays = ([], nothing_came before after writes.unread, ap unanswered writes.same ∙ sym (append-nil (unanswered old)))
visits_lose_none true old new before after taken behind (inr (awaits, inl more)) stays =
    let none = awaited old.wish awaits.0 in
    ([], unread_came before after more.unread, heard old.chunk old new none stays more.hears ∙ (sym (at_rest old none) ∙ sym (append-nil (unanswered old))))
visits_lose_none true old new before after taken behind (inr (awaits, inr fresh)) stays =
    let none = awaited old.wish awaits.0 in (
      fresh.came,
      fresh.read,
      heard fresh.came old new none stays fresh.hears
          ∙ sym (ap (λ (had : List ℕ). had ++ fresh.came) (at_rest old none ∙ (ap (λ (chunk : List ℕ). old.line ++ chunk) fresh.none ∙ append-nil old.line))),
    )

behind_it : (goes_on : Bool) (chunk : List ℕ) → line_so_far (wish_behind goes_on) [] ++ chunk ≡ chunk
behind_it true chunk = refl
behind_it false chunk = refl

-- a wish that is shown is the wish
shown : (b : Bool) (wish : Wish) → (if b then wish else Nothing) ≡ Answer → wish ≡ Answer
shown true wish is = is
shown false wish is = absurd cc

answered : (wish : Wish) (goes_on : Bool) (octets : List ℕ) (old new : Talk) → wish ≡ Answer → SaysIf wish goes_on octets old new → Says goes_on octets old new
answered Nothing goes_on octets old new is says = absurd cc
answered Answer goes_on octets old new is says = says
answered More goes_on octets old new is says = absurd cc

pub answers_take_their_line : AnswersTakeTheirLine
answers_take_their_line goes_on octets old new asked said =
    let says = answered (shown_wish old) goes_on octets old new asked said in
    let whole = shown (length old.saying == 0 && not old.is_leaving) old.wish asked in
    ap (λ (wish : Wish). line_so_far wish old.line ++ old.chunk) whole
    ∙ ap (λ (behind : List ℕ). (old.line ++ line_feed ∷ []) ++ behind)
    (sym (ap (λ (wish : Wish). line_so_far wish new.line ++ new.chunk) says.2 ∙ (ap (λ (line : List ℕ). line_so_far (wish_behind goes_on) line ++ new.chunk) says.0 ∙ (behind_it goes_on new.chunk ∙ says.1))))

-- ---- what is written

pub written : (count : ℕ) (old new : Talk) (before after taken behind : Option (List ℕ)) → count ≢ 0 → count ≤ length old.saying → new ≡ record old { saying = drop count old.saying } → Appends taken behind (take count old.saying) → Keeps before after → Writes old new before after taken behind
written count old new before after taken behind some few left took unread = record {
  octets = take count old.saying;
  some = λ none. some (sym (length-take-few few) ∙ ap length none);
  front = sym (take-append-drop count old.saying) ∙ ap (λ (rest : List ℕ). take count old.saying ++ rest) (sym (ap (λ (talk : Talk). talk.saying) left));
  same = left ∙ ap (λ (rest : List ℕ). record old { saying = rest }) (sym (ap (λ (talk : Talk). talk.saying) left));
  took = took;
  unread = unread;
}
  where
    length-take-few : count ≤ length old.saying → length (take count old.saying) ≡ count
    length-take-few within = let is = length-take count old.saying in omega (arith, is, within)

-- where nothing was written, the stream took nothing
nothing_took : (taken behind : Option (List ℕ)) → Keeps taken behind → Appends taken behind []
nothing_took None behind keeps = tt
nothing_took (Some had) None keeps = keeps
nothing_took (Some had) (Some has) keeps = keeps ∙ sym (append-nil had)

pub visits_write_in_order : VisitsWriteInOrder
visits_write_in_order false old new before after taken behind rests some = ([], nothing_took taken behind rests.2, ap (λ (talk : Talk). talk.saying) (sym rests.0))
visits_write_in_order true old new before after taken behind (inl writes) some = (writes.octets, writes.took, writes.front)
visits_write_in_order true old new before after taken behind (inr (awaits, listens)) some = absurd (some awaits.1)
