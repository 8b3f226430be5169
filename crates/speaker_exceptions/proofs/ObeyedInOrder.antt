-- How the commands of exceptions follow one another.
use Rattle.std.proofs.Common.{◌≡◌, ◌++◌, ◌∙◌, List, [], ◌∷◌, Option, None, Some, MatchOption, Result, Ok, Err, inl, inr, map, refl, sym, ap, subst, append_assoc, append-nil}
use Rattle.std.specs.Result.{IsErrAnd}
use Rattle.bgp_conf.specs.declared.command.Command.{Command}
use Rattle.runs.proofs.AcceptedCommands.{accepted-append, accepted_one}
use Rattle.runs.proofs.RefusedEvents.{err_of, takes_nothing}
use Rattle.runs.specs.Agreement.{Agrees}
use Rattle.runs.specs.FirstRefusal.{LacksMemory, refusal_of}
use Rattle.runs.specs.Runs.{Run}
use Rattle.runs.specs.SpeakerState.{SpeakerState}
use Rattle.runs.specs.declared.event.Event.TheVariants.{Command as Commanded}
use Rattle.bgp_conf.specs.declared.refusal.Refusal.{Refusal}
use Rattle.bgp_conf.specs.declared.refusal.Refusal.TheVariants.{NoMemory}
use Rattle.local_exceptions.specs.ExceptionSets.{ExceptionSets}
use Rattle.local_exceptions.specs.declared.filter.Filter.{Filter}
use Rattle.net_prefix.specs.declared.payload.Vrp.{Vrp}
use Rattle.speaker_exceptions.specs.ObeyedExceptions.{AreTurnsOf, IsRefusedBy, Obeys, ObeysBefore, ObeysOne, ObeysUpTo, Stays, command_of_assertion, command_of_filter, commands_of}

-- no command is obeyed
pub obeys_none : (s : SpeakerState) → Obeys [] s s
obeys_none s config r agrees = ([], refl, tt, agrees)

-- one is
obeys_one : (command : Command) (old new : SpeakerState) → ObeysOne command (Ok tt) old new → Obeys (command ∷ []) old new
obeys_one command old new one config r agrees =
    let now = one config r agrees in
    (now.0 ∷ [], ([], now.0, refl, now.1, refl), accepted_one config r now.0 command now.1 now.2, now.3)

are_turns-append : (one two : List Command) (first second : Run) → AreTurnsOf one first → AreTurnsOf two second → AreTurnsOf (one ++ two) (second ++ first)
are_turns-append [] two first second none are = subst (λ r. AreTurnsOf two r) (sym (ap (λ (r : Run). second ++ r) none ∙ append-nil second)) are
are_turns-append (command ∷ one) two first second are more =
    (second ++ are.0, are.1, ap (λ (r : Run). second ++ r) are.2 ∙ sym (append_assoc second are.0 (are.1 ∷ [])), are.3, are_turns-append one two are.0 second are.4 more)

-- some are, and then others
pub obeys_then : (one two : List Command) (old mid new : SpeakerState) → Obeys one old mid → Obeys two mid new → Obeys (one ++ two) old new
obeys_then one two old mid new first second config r agrees =
    let a = first config r agrees in
    let b = second config (a.0 ++ r) a.3 in
    let agreed : Agrees config ((b.0 ++ a.0) ++ r) new = rw append_assoc b.3 in
    (b.0 ++ a.0, are_turns-append one two a.0 b.0 a.1 b.1, accepted-append config r a.0 b.0 a.2 b.2, agreed)

-- of those of these items some were, and these are left
pub record AreLeft {T : Type 0} (command_of : T → Command) (items left : List T) (old new : SpeakerState) : Type 0 where
  pub done : List T
  pub all : done ++ left ≡ items
  pub obeyed : Obeys (map command_of done) old new

pub left_first : {T : Type 0} (command_of : T → Command) (items left : List T) (s : SpeakerState) → left ≡ items → AreLeft command_of items left s s
left_first command_of items left s is = record { done = []; all = is; obeyed = obeys_none s }

map-snoc : {T : Type 0} (command_of : T → Command) (done : List T) (item : T) → map command_of (done ++ item ∷ []) ≡ map command_of done ++ command_of item ∷ []
map-snoc command_of [] item = refl
map-snoc command_of (x ∷ done) item = ap (λ (commands : List Command). command_of x ∷ commands) (map-snoc command_of done item)

pub left_next : {T : Type 0} (command_of : T → Command) (items before : List T) (item : T) (left : List T) (old mid new : SpeakerState) → before ≡ item ∷ left → AreLeft command_of items before old mid → ObeysOne (command_of item) (Ok tt) mid new → AreLeft command_of items left old new
left_next {T} command_of items before item left old mid new is so one = record {
  done = so.done ++ item ∷ [];
  all = append_assoc so.done (item ∷ []) left ∙ (ap (λ (more : List T). so.done ++ more) (sym is) ∙ so.all);
  obeyed = subst (λ (commands : List Command). Obeys commands old new) (sym (map-snoc command_of so.done item)) (obeys_then (map command_of so.done) (command_of item ∷ []) old mid new so.obeyed (obeys_one (command_of item) mid new one));
}

pub left_none : {T : Type 0} (command_of : T → Command) (items left : List T) (old new : SpeakerState) → left ≡ [] → AreLeft command_of items left old new → Obeys (map command_of items) old new
left_none {T} command_of items left old new none so =
    subst (λ (xs : List T). Obeys (map command_of xs) old new) (sym (append-nil so.done) ∙ (ap (λ (more : List T). so.done ++ more) (sym none) ∙ so.all)) so.obeyed

-- a speaker that stays has obeyed what it had obeyed
obeys_still : (commands : List Command) (old mid new : SpeakerState) → Obeys commands old mid → Stays mid new → Obeys commands old new
obeys_still commands old mid new obeys stays config r agrees =
    let more = obeys config r agrees in
    (more.0, more.1, more.2, stays config (more.0 ++ r) more.3)

map-part : {T : Type 0} (command_of : T → Command) (done : List T) (item : T) (left : List T) → map command_of (done ++ item ∷ left) ≡ map command_of done ++ command_of item ∷ map command_of left
map-part command_of [] item left = refl
map-part command_of (x ∷ done) item left = ap (λ (commands : List Command). command_of x ∷ commands) (map-part command_of done item left)

-- what holds where commands stop for this holds of the answer
told_so : (commands : List Command) (why : Refusal) (result : Result (Unit {0}) Refusal) (old new : SpeakerState) → IsErrAnd result (λ told. told ≡ why) → ObeysBefore commands why old new → ObeysUpTo commands result old new
told_so commands why (Ok done) old new answered stops = absurd answered
told_so commands why (Err told) old new answered stops = subst (λ (w : Refusal). ObeysBefore commands w old new) (sym answered) stops

-- the next of them is refused
pub left_refused : {T : Type 0} (command_of : T → Command) (items before : List T) (item : T) (left : List T) (why : Refusal) (result : Result (Unit {0}) Refusal) (old mid new : SpeakerState) → before ≡ item ∷ left → AreLeft command_of items before old mid
    → ObeysOne (command_of item) (Err why) mid new → IsErrAnd result (λ told. told ≡ why) → ObeysUpTo (map command_of items) result old new
left_refused {T} command_of items before item left why result old mid new is so (refused, stays) answered =
    told_so (map command_of items) why result old new answered
    (command_of item, map command_of so.done, map command_of left, placed, refused, obeys_still (map command_of so.done) old mid new so.obeyed stays)
  where
    placed : map command_of items ≡ map command_of so.done ++ command_of item ∷ map command_of left
    placed = ap (λ (xs : List T). map command_of xs) (sym so.all ∙ ap (λ (more : List T). so.done ++ more) is) ∙ map-part command_of so.done item left

-- what stops among commands stops among those and more
before_more : (commands more : List Command) (why : Refusal) (old new : SpeakerState) → ObeysBefore commands why old new → ObeysBefore (commands ++ more) why old new
before_more commands more why old new (command, before, behind, is, refused, obeyed) =
    (command, before, behind ++ more, ap (λ (xs : List Command). xs ++ more) is ∙ append_assoc before (command ∷ behind) more, refused, obeyed)

-- or among others behind them
before_behind : (first commands : List Command) (why : Refusal) (old mid new : SpeakerState) → Obeys first old mid → ObeysBefore commands why mid new → ObeysBefore (first ++ commands) why old new
before_behind first commands why old mid new obeys (command, before, behind, is, refused, obeyed) =
    (command, first ++ before, behind, ap (λ (xs : List Command). first ++ xs) is ∙ sym (append_assoc first before (command ∷ behind)), refused, obeys_then first before old mid new obeys obeyed)

obeyed_behind : (first commands : List Command) (result : Result (Unit {0}) Refusal) (old mid new : SpeakerState) → Obeys first old mid → ObeysUpTo commands result mid new → ObeysUpTo (first ++ commands) result old new
obeyed_behind first commands (Ok done) old mid new obeys then = obeys_then first commands old mid new obeys then
obeyed_behind first commands (Err why) old mid new obeys stops = before_behind first commands why old mid new obeys stops

-- those of the filters were obeyed, and then those of the assertions, up to one that is refused
pub obeyed_both : (exceptions : ExceptionSets) (filters : List Filter) (asserted : List Vrp) (old mid new : SpeakerState) (result : Result (Unit {0}) Refusal) → filters ≡ exceptions.filters → asserted ≡ exceptions.asserted → Obeys (map command_of_filter filters) old mid
    → ObeysUpTo (map command_of_assertion asserted) result mid new → ObeysUpTo (commands_of exceptions) result old new
obeyed_both exceptions filters asserted old mid new result f a first second =
    obeyed_behind (map command_of_filter exceptions.filters) (map command_of_assertion exceptions.asserted) result old mid new
    (subst (λ (xs : List Filter). Obeys (map command_of_filter xs) old mid) f first) (subst (λ (xs : List Vrp). ObeysUpTo (map command_of_assertion xs) result mid new) a second)

-- one of the filters' is refused
pub filter_refused : (exceptions : ExceptionSets) (filters : List Filter) (why : Refusal) (result : Result (Unit {0}) Refusal) (old new : SpeakerState) → filters ≡ exceptions.filters → ObeysBefore (map command_of_filter filters) why old new → IsErrAnd result (λ told. told ≡ why) → ObeysUpTo (commands_of exceptions) result old new
filter_refused exceptions filters why result old new f stops answered =
    told_so (commands_of exceptions) why result old new answered
    (before_more (map command_of_filter exceptions.filters) (map command_of_assertion exceptions.asserted) why old new (subst (λ (xs : List Filter). ObeysBefore (map command_of_filter xs) why old new) f stops))

-- a command that is refused is refused for this
pub refused_one : (first : Option Refusal) (command : Command) (why : Refusal) (old new : SpeakerState) → refusal_of old (Commanded command) ≡ first
    → MatchOption first ((why ≡ NoMemory) × LacksMemory (Commanded command) old new) (λ w. (err_of why ≡ err_of w) × (new ≡ old)) → IsRefusedBy new command why × Stays old new
refused_one first command why old new is refused = (refusal first is refused, takes_nothing first (Commanded command) why old new refused)
  where
    refusal : (first : Option Refusal) → refusal_of old (Commanded command) ≡ first → MatchOption first ((why ≡ NoMemory) × LacksMemory (Commanded command) old new) (λ w. (err_of why ≡ err_of w) × (new ≡ old)) → IsRefusedBy new command why
    refusal None is lacks = inr lacks.0
    refusal (Some w) is refused =
        let same : w ≡ why = let one = refused.0 in cc in
        inl (ap (λ (s : SpeakerState). refusal_of s (Commanded command)) refused.1 ∙ is ∙ ap (λ (x : Refusal). Some x) same)
