-- Turns with operators between them, one after another.
use Rattle.std.proofs.Common.{◌≡◌, ◌≢◌, ◌≤◌, ◌<◌, ◌+◌, ◌++◌, ◌∙◌, ◌⊎◌, ◌||◌, inl, inr, ℕ, zero, suc, Bool, true, false, nat_le, List, [], ◌∷◌, Option, Some, None, MatchOption, OnOk, Result, Ok, Err, codes, drop, get_or, set, length, length-append, append-nil, refl, sym, ap, subst, arith}
use Rattle.std.proofs.lemmas.List.{drop_all, drop_more}
use Rattle.std.specs.Result.{IsErrAnd}
use Rattle.std.specs.declared.net.socket_addr.SocketAddr.{SocketAddr}
use Rattle.bgp_conf.specs.declared.command.Command.{Command}
use Rattle.bgp_conf.specs.declared.command.Command.TheVariants.{Disable, Enable}
use Rattle.bgp_conf.specs.declared.refusal.Refusal.{Refusal}
use Rattle.clocks.proofs.ToldMoments.{told_one_more}
use Rattle.clocks.specs.Moments.{IsNotBefore, NeverGoBack, told_behind}
use Rattle.command_lines.specs.CommandWords.{Says}
use Rattle.command_lines.specs.Words.{words_in}
use Rattle.control_lines.specs.declared.talk.Wish.{Wish}
use Rattle.control_lines.specs.declared.talk.Wish.TheVariants.{Nothing, Answer, More}
use Rattle.speaker.specs.Shown.{cache_state_of}
use Rattle.runs.specs.declared.event.Report.{Report}
use Rattle.rtr_client.specs.declared.state.ClientState.{ClientState}
use Rattle.wires.specs.declared.fault.LoopFault.TheVariants.{Accept}
use Rattle.speaker_turns.specs.Obeying.{Obeys}
use Rattle.speaker_turns.specs.Turns.{TakesTurn, Turns, with_remote}
use Rattle.speaker_turns.specs.declared.end.End.{End}
use Rattle.speaker_turns.specs.declared.end.End.TheVariants.{Peer}
use Rattle.speaker_desk.specs.Answering.{AnswersLine, AnswersText, ClearsSlot, Commands, FollowsAnswer, IsAt, IsCleared, IsObeyed, IsTextOf, IsToldWhere, Stops, StopsBelow, added_by, settled}
use Rattle.speaker_desk.specs.Attended.{AttendsBelow, AttendsTurns, AttendsWish, BeginsBelow, BeginsIf, EnablesAll, EndsRounds, Fails, Hall, IsStopped, LetsIf, LetsThrough, StopsAt, TakesRound, TakesRounds, may_begin}
use Rattle.speaker_desk.specs.Moves.{AreOperators, AreWell, AsksFor, Move, MovesAll, TakesMoves, moments_in}
use Rattle.speaker_desk.specs.Moves.Move.{Turned, Stopped, Obeyed, Let, Placed}
use Rattle.speaker_desk.specs.Standing.{DeskState, Standing}
use Rattle.speaker_desk.specs.Waiting.{decided_by, is_synced, none_waits, opens, without}

-- moves behind moves
moves_on : (one two : List Move) (old mid new : Turns) → MovesAll one old mid → MovesAll two mid new → MovesAll (one ++ two) old new
moves_on [] two old mid new same more = subst (λ (t : Turns). MovesAll two t new) same more
moves_on (move ∷ one) two old mid new made more = (made.0, made.1, moves_on one two made.0 mid new made.2 more)

operators-append : (one two : List Move) → AreOperators one → AreOperators two → AreOperators (one ++ two)
operators-append [] two first second = second
operators-append (move ∷ one) two first second = (first.0, operators-append one two first.1 second)

well-append : (one two : List Move) → AreWell one → AreWell two → AreWell (one ++ two)
well-append [] two first second = second
well-append (move ∷ one) two first second = (first.0, well-append one two first.1 second)

moments_in-append : (one two : List Move) → moments_in (one ++ two) ≡ moments_in one ++ moments_in two
moments_in-append [] two = refl
moments_in-append (Turned now ∷ one) two = ap (λ (l : List ℕ). now ∷ l) (moments_in-append one two)
moments_in-append (Stopped now ∷ one) two = ap (λ (l : List ℕ). now ∷ l) (moments_in-append one two)
moments_in-append (Obeyed line command ∷ one) two = moments_in-append one two
moments_in-append (Let slot ∷ one) two = moments_in-append one two
moments_in-append (Placed end remote ∷ one) two = moments_in-append one two

-- operators take no turn
no_moments : (moves : List Move) → AreOperators moves → moments_in moves ≡ []
no_moments [] own = refl
no_moments (Turned now ∷ moves) own = absurd own.0
no_moments (Stopped now ∷ moves) own = absurd own.0
no_moments (Obeyed line command ∷ moves) own = no_moments moves own.1
no_moments (Let slot ∷ moves) own = no_moments moves own.1
no_moments (Placed end remote ∷ moves) own = no_moments moves own.1

own_are_well : (moves : List Move) → AreOperators moves → AreWell moves
own_are_well [] own = tt
own_are_well (Turned now ∷ moves) own = absurd own.0
own_are_well (Stopped now ∷ moves) own = absurd own.0
own_are_well (Obeyed line command ∷ moves) own = (tt, own_are_well moves own.1)
own_are_well (Let slot ∷ moves) own = (tt, own_are_well moves own.1)
own_are_well (Placed end remote ∷ moves) own = (tt, own_are_well moves own.1)

-- what lines ask for, as moves
record AsksMoves (old new : Turns) : Type 0 where
  moves : List Move
  made : MovesAll moves old new
  own : AreOperators moves

moves_none : (old new : Turns) → new ≡ old → AsksMoves old new
moves_none old new same = record { moves = []; made = same; own = tt }

moves_both : (old mid new : Turns) → AsksMoves old mid → AsksMoves mid new → AsksMoves old new
moves_both old mid new one other =
    record { moves = one.moves ++ other.moves; made = moves_on one.moves other.moves old mid new one.made other.made; own = operators-append one.moves other.moves one.own other.own }

moves_command : (line : List ℕ) (command : Command) (old : Turns) (result : Result Report Refusal) (new : Turns) → AsksFor line command → Obeys command old result new → AsksMoves old new
moves_command line command old result new asks obeys =
    record { moves = Obeyed line command ∷ []; made = (new, (asks, result, obeys), refl); own = (tt, tt) }

moves_let : (slot : ℕ) (old : Turns) (result : Result Report Refusal) (new : Turns) → Obeys (Enable slot) old result new → AsksMoves old new
moves_let slot old result new obeys = record { moves = Let slot ∷ []; made = (new, (result, obeys), refl); own = (tt, tt) }

moves_place : (end : End) (remote : SocketAddr) (old new : Turns) → new ≡ with_remote end remote old → AsksMoves old new
moves_place end remote old new placed = record { moves = Placed end remote ∷ []; made = (new, placed, refl); own = (tt, tt) }

told_moves : (remotes : List (ℕ × SocketAddr)) (added : Option (ℕ × ℕ)) (old new : Turns) → MatchOption added (new ≡ old) (λ at. (remote : SocketAddr) × IsAt remotes at remote × (new ≡ with_remote (Peer at.0) remote old)) → AsksMoves old new
told_moves remotes None old new same = moves_none old new same
told_moves remotes (Some at) old new told = moves_place (Peer at.0) told.0 old new told.2

told_if_moves : (result : Result Report Refusal) (command : Command) (mid : Turns) (old new : Standing) → FollowsAnswer result command mid old new → AsksMoves mid new.served
told_if_moves (Ok report) command mid old new follows = told_moves old.desk.remotes (added_by command) mid new.served follows.0
told_if_moves (Err why) command mid old new same = moves_none mid new.served (ap (λ (s : Standing). s.served) same)

obeyed_moves : (line : List ℕ) (command : Command) (old new : Standing) → AsksFor line command → IsObeyed command old new → AsksMoves old.served new.served
obeyed_moves line command old new asks is =
    moves_both old.served is.mid new.served (moves_command line command old.served is.result is.mid asks is.obeys) (told_if_moves is.result command is.mid old new is.follows)

clear_moves : (line word : List ℕ) (old new : Standing) → words_in line ≡ codes "clear" ∷ word ∷ [] → ClearsSlot word old new → AsksMoves old.served new.served
clear_moves line word old new words (inl same) = moves_none old.served new.served (ap (λ (s : Standing). s.served) same)
clear_moves line word old new words (inr clears) =
    let is = clears.2 in moves_command line (Disable clears.0) old.served is.0 new.served (inr (inl (word, words, clears.1))) is.1

stop_moves : (count : ℕ) (old new : Turns) → StopsBelow count old new → AsksMoves old new
stop_moves zero old new same = moves_none old new same
stop_moves (suc slot) old new stops =
    moves_both old stops.0 new (stop_moves slot old stops.0 stops.1) (moves_command (codes "stop") (Disable slot) stops.0 stops.2.0 new (inr (inr (refl, slot, refl))) stops.2.1)

says_moves : (text : List ℕ) (old new : Standing) → Commands text old new → AsksMoves old.served new.served
says_moves text old new (inl same) = moves_none old.served new.served (ap (λ (s : Standing). s.served) same)
says_moves text old new (inr (inl says)) = obeyed_moves text says.0 old new (inl says.1) says.2
says_moves text old new (inr (inr clears)) = clear_moves text clears.0 old new clears.1 clears.2

text_moves : (text : List ℕ) (now : ℕ) (old new : Standing) → AnswersText text now old new → AsksMoves old.served new.served
text_moves text now old new (inl stops) = stop_moves 64 old.served new.served stops.1.all
text_moves text now old new (inr says) = says_moves text old new says.1

enabled_moves : (slots : List ℕ) (old new : Turns) → EnablesAll slots old new → AsksMoves old new
enabled_moves [] old new same = moves_none old new same
enabled_moves (slot ∷ slots) old new lets = moves_both old lets.1 new (moves_let slot old lets.0 lets.1 lets.2) (enabled_moves slots lets.1 new lets.3)

through_moves : (opens : Bool) (old new : Standing) → LetsIf opens old new → AsksMoves old.served new.served
through_moves false old new same = moves_none old.served new.served (ap (λ (s : Standing). s.served) same)
through_moves true old new lets = enabled_moves old.desk.waiting.slots old.served new.served lets.0

begin_moves : (begins : Bool) (slot : ℕ) (old new : Standing) → BeginsIf begins slot old new → AsksMoves old.served new.served
begin_moves false slot old new same = moves_none old.served new.served (ap (λ (s : Standing). s.served) same)
begin_moves true slot old new begins = moves_let slot old.served begins.0 new.served begins.1

begun_moves : (count : ℕ) (old new : Standing) → BeginsBelow count old new → AsksMoves old.served new.served
begun_moves zero old new same = moves_none old.served new.served (ap (λ (s : Standing). s.served) same)
begun_moves (suc slot) old new begins =
    moves_both old.served (begins.0).served new.served (begun_moves slot old begins.0 begins.1) (begin_moves (may_begin slot begins.0) slot begins.0 new begins.2)

-- moves whose turns are at these moments, and go well
record MovesOf (moments : List ℕ) (old new : Turns) : Type 0 where
  moves : List Move
  made : MovesAll moves old new
  told : moments_in moves ≡ moments
  well : AreWell moves

moves_of_both : (one two : List ℕ) (old mid new : Turns) → MovesOf one old mid → MovesOf two mid new → MovesOf (one ++ two) old new
moves_of_both one two old mid new first second =
    record {
      moves = first.moves ++ second.moves;
      made = moves_on first.moves second.moves old mid new first.made second.made;
      told = moments_in-append first.moves second.moves ∙ (ap (λ (l : List ℕ). l ++ moments_in second.moves) first.told ∙ ap (λ (l : List ℕ). one ++ l) second.told);
      well = well-append first.moves second.moves first.well second.well;
    }

turned_moves : (now : ℕ) (old new : Turns) → TakesTurn now old (Ok tt) new → MovesOf (now ∷ []) old new
turned_moves now old new turn = record { moves = Turned now ∷ []; made = (new, turn, refl); told = refl; well = (tt, tt) }

moves_end : {E : Type 0} (result : Result (Unit {0}) E) (count : ℕ) (moments before behind : List ℕ) (old new : Turns) → MovesOf moments old new → behind ≡ told_behind moments before → (NeverGoBack before → NeverGoBack behind) → length moments ≤ count → TakesMoves count result before behind old new
moves_end result count moments before behind old new of told forward few =
    record {
      moves = of.moves;
      made = of.made;
      told = told ∙ ap (λ (l : List ℕ). told_behind l before) (sym of.told);
      forward = forward;
      few = subst (λ (l : List ℕ). length l ≤ count) (sym of.told) few;
      well = well result;
    }
  where
    well : {E : Type 0} (result : Result (Unit {0}) E) → OnOk result (AreWell of.moves)
    well (Ok done) = of.well
    well (Err fault) = tt

module _ {P : Type 0} (wish : P → ℕ → Wish) (line : P → ℕ → List ℕ) (turns : ℕ → P → P → Type 0) (hears : ℕ → List ℕ → Bool → P → P → Type 0) where
  wish_moves : (w : Wish) (key now : ℕ) (old new : Hall P) → AttendsWish wish line turns hears w key now old new → AsksMoves old.stand.served new.stand.served
  wish_moves Nothing key now old new same = moves_none old.stand.served new.stand.served (ap (λ (h : Hall P). h.stand.served) same)
  wish_moves Answer key now old new answers = text_moves answers.0.0 now old.stand new.stand answers.0.2
  wish_moves More key now old new shows = moves_none old.stand.served new.stand.served (ap (λ (s : Standing). s.served) shows.0)

  attended_moves : (keys now : ℕ) (old new : Hall P) → AttendsBelow wish line turns hears keys now old new → AsksMoves old.stand.served new.stand.served
  attended_moves zero now old new same = moves_none old.stand.served new.stand.served (ap (λ (h : Hall P). h.stand.served) same)
  attended_moves (suc key) now old new below =
      moves_both old.stand.served (below.0).stand.served new.stand.served (attended_moves key now old below.0 below.1) (wish_moves (wish (below.0).operators key) key now below.0 new below.2)

  round_moves : (now : ℕ) (old new : Hall P) → TakesRound wish line turns hears now old new → MovesOf (now ∷ []) old.stand.served new.stand.served
  round_moves now old new round =
      let lets = through_moves (opens now (cache_state_of (round.turned).speaker.cache) old.stand.desk.waiting) (record old.stand { served = round.turned }) round.let_through round.lets in
      let begins = begun_moves 64 round.let_through round.begun round.begins in
      let attends = attended_moves 16 now (record { stand = round.begun; operators = round.visited }) new round.attends in
      let both = moves_both round.turned (round.let_through).served new.stand.served lets (moves_both (round.let_through).served (round.begun).served new.stand.served begins attends) in
      record {
        moves = Turned now ∷ both.moves;
        made = (round.turned, round.turn, both.made);
        told = ap (λ (l : List ℕ). now ∷ l) (no_moments both.moves both.own);
        well = (tt, own_are_well both.moves both.own);
      }

  rounds_moves : (moments : List ℕ) (old new : Hall P) → TakesRounds wish line turns hears moments old new → MovesOf moments old.stand.served new.stand.served
  rounds_moves [] old new same = record { moves = []; made = ap (λ (h : Hall P). h.stand.served) same; told = refl; well = tt }
  rounds_moves (now ∷ moments) old new rounds =
      moves_of_both (now ∷ []) moments old.stand.served (rounds.0).stand.served new.stand.served (round_moves now old rounds.0 rounds.1) (rounds_moves moments rounds.0 new rounds.2)

  -- what turns with operators between them are to the loop: moves, whose turns are at the moments that the clock told
  pub attended_are_moves : {E : Type 0} (count : ℕ) (result : Result (Unit {0}) E) (before behind : List ℕ) (old new : Hall P) → AttendsTurns wish line turns hears count result before behind old new → TakesMoves count result before behind old.stand.served new.stand.served
  attended_are_moves {E} count (Ok done) before behind old new attends = by_end attends.ends
    where
      so_far : MovesOf attends.moments old.stand.served (attends.mid).stand.served
      so_far = rounds_moves attends.moments old attends.mid attends.rounds

      by_end : EndsRounds wish line turns hears {E = E} (Ok done) count attends.moments before behind attends.mid new → TakesMoves {E = E} count (Ok done) before behind old.stand.served new.stand.served
      by_end (inl all) =
          let many = all.0 in
          moves_end (Ok done) count attends.moments before behind old.stand.served new.stand.served
          (subst (λ (t : Turns). MovesOf attends.moments old.stand.served t) (sym (ap (λ (h : Hall P). h.stand.served) all.2)) so_far) all.1 attends.forward (omega (arith, many))
      by_end (inr stops) =
          let few = stops.1 in
          moves_end (Ok done) count (attends.moments ++ stops.0 ∷ []) before behind old.stand.served new.stand.served
          (moves_of_both attends.moments (stops.0 ∷ []) old.stand.served (attends.mid).stand.served new.stand.served so_far (turned_moves stops.0 (attends.mid).stand.served new.stand.served (stops.3).turn))
          (stops.2 ∙ sym (told_one_more attends.moments stops.0 before)) attends.forward (let more = length-append attends.moments (stops.0 ∷ []) in omega (arith, few, more))
  attended_are_moves {E} count (Err fault) before behind old new attends = by_end attends.ends
    where
      so_far : MovesOf attends.moments old.stand.served (attends.mid).stand.served
      so_far = rounds_moves attends.moments old attends.mid attends.rounds

      by_end : EndsRounds wish line turns hears {E = E} (Err fault) count attends.moments before behind attends.mid new → TakesMoves {E = E} count (Err fault) before behind old.stand.served new.stand.served
      by_end (inl fails) =
          let few = fails.0 in
          record {
            moves = so_far.moves;
            made = subst (λ (t : Turns). MovesAll so_far.moves old.stand.served t) (sym (ap (λ (h : Hall P). h.stand.served) fails.2)) so_far.made;
            told = fails.1 ∙ ap (λ (l : List ℕ). told_behind l before) (sym so_far.told);
            forward = attends.forward;
            few = subst (λ (l : List ℕ). length l ≤ count) (sym so_far.told) (omega (arith, few));
            well = tt;
          }
      by_end (inr fails) =
          let few = fails.1 in
          let told : moments_in (so_far.moves ++ Stopped fails.0 ∷ []) ≡ attends.moments ++ fails.0 ∷ [] = moments_in-append so_far.moves (Stopped fails.0 ∷ []) ∙ ap (λ (l : List ℕ). l ++ fails.0 ∷ []) so_far.told in
          record {
            moves = so_far.moves ++ Stopped fails.0 ∷ [];
            made = moves_on so_far.moves (Stopped fails.0 ∷ []) old.stand.served (attends.mid).stand.served new.stand.served so_far.made (new.stand.served, (fails.3).turn, refl);
            told = fails.2 ∙ (sym (told_one_more attends.moments fails.0 before) ∙ ap (λ (l : List ℕ). told_behind l before) (sym told));
            forward = attends.forward;
            few = subst (λ (l : List ℕ). length l ≤ count) (sym told) (let more = length-append attends.moments (fails.0 ∷ []) in omega (arith, few, more));
            well = tt;
          }

  -- ---- rounds, as they are taken

  rounds_more : (moments : List ℕ) (now : ℕ) (old mid new : Hall P) → TakesRounds wish line turns hears moments old mid → TakesRound wish line turns hears now mid new → TakesRounds wish line turns hears (moments ++ now ∷ []) old new
  rounds_more [] now old mid new same round = (new, subst (λ (h : Hall P). TakesRound wish line turns hears now h new) same round, refl)
  rounds_more (moment ∷ moments) now old mid new rounds round = (rounds.0, rounds.1, rounds_more moments now rounds.0 mid new rounds.2 round)

  pub attends_first : (now : ℕ) (old : Hall P) → AttendsBelow wish line turns hears 0 now old old
  attends_first now old = refl

  pub attends_more : (key now : ℕ) (old mid new : Hall P) → AttendsBelow wish line turns hears key now old mid → AttendsWish wish line turns hears (wish mid.operators key) key now mid new → AttendsBelow wish line turns hears (key + 1) now old new
  attends_more key now old mid new below one = subst (λ (n : ℕ). AttendsBelow wish line turns hears n now old new) next (attends_suc key now old mid new below one)
    where
      next : suc key ≡ key + 1
      next = omega arith

      attends_suc : (key now : ℕ) (old mid new : Hall P) → AttendsBelow wish line turns hears key now old mid → AttendsWish wish line turns hears (wish mid.operators key) key now mid new → AttendsBelow wish line turns hears (suc key) now old new
      attends_suc key now old mid new below one = (mid, below, one)

  pub attends_all : (count now : ℕ) (old new : Hall P) → count ≡ 16 → AttendsBelow wish line turns hears count now old new → AttendsBelow wish line turns hears 16 now old new
  attends_all count now old new all below = subst (λ (n : ℕ). AttendsBelow wish line turns hears n now old new) all below

  pub takes_round : (now : ℕ) (old : Hall P) (turned : Turns) (noted : DeskState) (visited : P) (let_through begun : Standing) (attended : Hall P) (waited : Turns) (ends : Bool) → TakesTurn now old.stand.served (Ok tt) turned → noted ≡ old.stand.desk → turns now old.operators visited
      → StopsAt noted.stopped now ends → ends ≡ false → LetsThrough now (record { served = turned; desk = noted }) let_through → BeginsBelow 64 let_through begun → AttendsBelow wish line turns hears 16 now (record { stand = begun; operators = visited }) attended → waited ≡ attended.stand.served
      → TakesRound wish line turns hears now old (record { stand = record { served = waited; desk = attended.stand.desk }; operators = attended.operators })
  takes_round now old turned noted visited let_through begun attended waited ends turn same visits last goes_on lets begins attends rests =
      subst (λ (t : Turns). TakesRound wish line turns hears now old (record { stand = record { served = t; desk = attended.stand.desk }; operators = attended.operators })) (sym rests)
      (record {
        turned = turned;
        turn = turn;
        visited = visited;
        visits = visits;
        goes_on = subst (λ (d : DeskState). StopsAt d.stopped now false) same (subst (λ (b : Bool). StopsAt noted.stopped now b) goes_on last);
        let_through = let_through;
        lets = subst (λ (d : DeskState). LetsThrough now (record { served = turned; desk = d }) let_through) same lets;
        begun = begun;
        begins = begins;
        attends = attends;
      })

  -- so many have been
  pub record RoundsSoFar (count : ℕ) (before mid : List ℕ) (old new : Hall P) : Type 0 where
    pub moments : List ℕ
    pub rounds : TakesRounds wish line turns hears moments old new
    pub told : mid ≡ told_behind moments before
    pub forward : NeverGoBack before → NeverGoBack mid
    pub counted : length moments ≡ count

  pub none_so_far : (before : List ℕ) (old : Hall P) → RoundsSoFar 0 before before old old
  none_so_far before old = record { moments = []; rounds = refl; told = refl; forward = λ all. all; counted = refl }

  pub one_more : (count now : ℕ) (before mid behind : List ℕ) (old between new : Hall P) → RoundsSoFar count before mid old between → behind ≡ now ∷ mid → IsNotBefore now mid → TakesRound wish line turns hears now between new → RoundsSoFar (count + 1) before behind old new
  one_more count now before mid behind old between new so_far reads later round =
      let counted = so_far.counted in
      record {
        moments = so_far.moments ++ now ∷ [];
        rounds = rounds_more so_far.moments now old between new so_far.rounds round;
        told = reads ∙ (ap (λ (l : List ℕ). now ∷ l) so_far.told ∙ sym (told_one_more so_far.moments now before));
        forward = λ all. subst (λ (l : List ℕ). NeverGoBack l) (sym reads) (later, so_far.forward all);
        counted = omega (arith, length-append so_far.moments (now ∷ []), counted);
      }

  pub all_taken : {E : Type 0} (count all : ℕ) (before behind : List ℕ) (old new : Hall P) → count ≡ all → RoundsSoFar count before behind old new → AttendsTurns wish line turns hears {E = E} all (Ok tt) before behind old new
  all_taken count all before behind old new done so_far =
      record { moments = so_far.moments; mid = new; rounds = so_far.rounds; ends = inl (so_far.counted ∙ done, so_far.told, refl); forward = so_far.forward }

  pub stopped_before : {E : Type 0} (count all now : ℕ) (before mid behind : List ℕ) (old between new : Hall P) → count < all → RoundsSoFar count before mid old between → behind ≡ now ∷ mid → IsNotBefore now mid → IsStopped wish line turns hears now between new
      → AttendsTurns wish line turns hears {E = E} all (Ok tt) before behind old new
  stopped_before count all now before mid behind old between new fewer so_far reads later stops =
      let counted = so_far.counted in
      record {
        moments = so_far.moments;
        mid = between;
        rounds = so_far.rounds;
        ends = inr (now, omega (arith, counted, fewer), reads ∙ ap (λ (l : List ℕ). now ∷ l) so_far.told, stops);
        forward = λ known. subst (λ (l : List ℕ). NeverGoBack l) (sym reads) (later, so_far.forward known);
      }

  pub clock_fails : {E : Type 0} (Q : E → Type 0) (count all : ℕ) (result : Result (Unit {0}) E) (before mid behind : List ℕ) (old new : Hall P) → IsErrAnd result Q → count < all → behind ≡ mid → RoundsSoFar count before mid old new → AttendsTurns wish line turns hears all result before behind old new
  clock_fails Q count all (Ok done) before mid behind old new is fewer same so_far = absurd is
  clock_fails Q count all (Err fault) before mid behind old new is fewer same so_far =
      let counted = so_far.counted in
      record {
        moments = so_far.moments;
        mid = new;
        rounds = so_far.rounds;
        ends = inl (omega (arith, counted, fewer), same ∙ so_far.told, refl);
        forward = λ known. subst (λ (l : List ℕ). NeverGoBack l) (sym same) (so_far.forward known);
      }

  pub turn_fails : {E : Type 0} (Q : E → Type 0) (count all now : ℕ) (result : Result (Unit {0}) E) (before mid behind : List ℕ) (old between new : Hall P) → IsErrAnd result Q → count < all → behind ≡ now ∷ mid → IsNotBefore now mid → RoundsSoFar count before mid old between → Fails wish line turns hears now between new
      → AttendsTurns wish line turns hears all result before behind old new
  turn_fails Q count all now (Ok done) before mid behind old between new is fewer reads later so_far fails = absurd is
  turn_fails Q count all now (Err fault) before mid behind old between new is fewer reads later so_far fails =
      let counted = so_far.counted in
      record {
        moments = so_far.moments;
        mid = between;
        rounds = so_far.rounds;
        ends = inr (now, omega (arith, counted, fewer), reads ∙ ap (λ (l : List ℕ). now ∷ l) so_far.told, fails);
        forward = λ known. subst (λ (l : List ℕ). NeverGoBack l) (sym reads) (later, so_far.forward known);
      }

-- ---- what each call makes of a loop

pub told_some : (remotes : List (ℕ × SocketAddr)) (command : Command) (at : ℕ × ℕ) (remote : SocketAddr) (old new : Turns) → Some at ≡ added_by command → IsAt remotes at remote → new ≡ with_remote (Peer at.0) remote old → IsToldWhere remotes command old new
told_some remotes command at remote old new is there told = subst (λ (o : Option (ℕ × ℕ)). MatchOption o (new ≡ old) (λ a. (place : SocketAddr) × IsAt remotes a place × (new ≡ with_remote (Peer a.0) place old))) is (remote, there, told)

pub told_none : (remotes : List (ℕ × SocketAddr)) (command : Command) (old new : Turns) → None ≡ added_by command → new ≡ old → IsToldWhere remotes command old new
told_none remotes command old new is same = subst (λ (o : Option (ℕ × ℕ)). MatchOption o (new ≡ old) (λ a. (there : SocketAddr) × IsAt remotes a there × (new ≡ with_remote (Peer a.0) there old))) is same

pub obeys_ok : (command : Command) (report : Report) (old : Standing) (mid : Turns) (new : Standing) → Obeys command old.served (Ok report) mid → IsToldWhere old.desk.remotes command mid new.served → new.desk ≡ settled (decided_by command) old.desk → IsObeyed command old new
obeys_ok command report old mid new obeys told decides = record { result = Ok report; mid = mid; obeys = obeys; follows = (told, decides) }

pub obeys_err : (command : Command) (why : Refusal) (old : Standing) (mid : Turns) (new : Standing) → Obeys command old.served (Err why) mid → new ≡ record old { served = mid } → IsObeyed command old new
obeys_err command why old mid new obeys same = record { result = Err why; mid = mid; obeys = obeys; follows = same }

pub commands_none : (text : List ℕ) (old new : Standing) → new ≡ old → Commands text old new
commands_none text old new same = inl same

pub commands_says : (text : List ℕ) (command : Command) (old new : Standing) → Says (words_in text) command → IsObeyed command old new → Commands text old new
commands_says text command old new says obeyed = inr (inl (command, says, obeyed))

pub commands_clears : (text word : List ℕ) (old new : Standing) → words_in text ≡ codes "clear" ∷ word ∷ [] → ClearsSlot word old new → Commands text old new
commands_clears text word old new words clears = inr (inr (word, words, clears))

pub clears_one : (word : List ℕ) (slot : ℕ) (old new : Standing) → Says (codes "disable" ∷ word ∷ []) (Disable slot) → IsCleared slot old new → ClearsSlot word old new
clears_one word slot old new says clears = inr (slot, says, clears)

pub clears_none : (word : List ℕ) (old new : Standing) → new ≡ old → ClearsSlot word old new
clears_none word old new same = inl same

pub cleared_ok : (slot : ℕ) (report : Report) (old new : Standing) → Obeys (Disable slot) old.served (Ok report) new.served → new.desk ≡ record old.desk { waiting = without (Some slot) old.desk.waiting; again = set old.desk.again slot true } → IsCleared slot old new
cleared_ok slot report old new obeys same = (Ok report, obeys, same)

pub cleared_err : (slot : ℕ) (why : Refusal) (old new : Standing) → Obeys (Disable slot) old.served (Err why) new.served → new.desk ≡ old.desk → IsCleared slot old new
cleared_err slot why old new obeys same = (Err why, obeys, same)

pub line_stops : (line text : List ℕ) (now : ℕ) (old new : Standing) → IsTextOf line text → text ≡ codes "stop" → Stops now old new → AnswersLine line now old new
line_stops line text now old new is stop stops = (text, is, inl (stop, stops))

pub line_says : (line text : List ℕ) (now : ℕ) (old new : Standing) → IsTextOf line text → text ≢ codes "stop" → Commands text old new → AnswersLine line now old new
line_says line text now old new is other says = (text, is, inr (other, says))

pub line_none : (line text : List ℕ) (now : ℕ) (old new : Standing) → IsTextOf line text → text ≢ codes "stop" → new ≡ old → AnswersLine line now old new
line_none line text now old new is other same = (text, is, inr (other, inl same))

-- ---- peers that wait

pub enables_more : (slots : List ℕ) (index : ℕ) (slot : ℕ) (result : Result Report Refusal) (old mid next : Turns) → index < length slots → Obeys (Enable (get_or slots index slot)) mid result next
    → ((new : Turns) → EnablesAll (drop index slots) mid new → EnablesAll slots old new) → (new : Turns) → EnablesAll (drop (index + 1) slots) next new → EnablesAll slots old new
enables_more slots index slot result old mid next within obeys so_far new others =
    so_far new (subst (λ (left : List ℕ). EnablesAll left mid new) (sym (drop_more slots index slot within)) (result, next, obeys, others))

pub enables_all : (slots : List ℕ) (index : ℕ) (old mid : Turns) → length slots ≤ index → ((new : Turns) → EnablesAll (drop index slots) mid new → EnablesAll slots old new) → EnablesAll slots old mid
enables_all slots index old mid past so_far = so_far mid (subst (λ (left : List ℕ). EnablesAll left mid mid) (sym (drop_all index slots past)) refl)

pub lets_all : (opens : Bool) (old new : Standing) → opens ≡ true → EnablesAll old.desk.waiting.slots old.served new.served → new.desk ≡ record old.desk { waiting = record (none_waits old.desk.waiting) { is_open = opens } } → LetsIf opens old new
lets_all false old new wrong enables same = absurd cc
lets_all true old new is enables same = (enables, same)

shut : (b rest : Bool) → (b || rest) ≡ false → (b || rest) ≡ b
shut true rest wrong = absurd cc
shut false rest is = is

pub lets_none : (now : ℕ) (session : Option ClientState) (old new : Standing) → opens now session old.desk.waiting ≡ false → new ≡ record old { desk = record old.desk { waiting = record old.desk.waiting { is_open = opens now session old.desk.waiting } } } → LetsIf (opens now session old.desk.waiting) old new
lets_none now session old new closed same =
    closed_so (opens now session old.desk.waiting) closed
    (same ∙ ap (λ (b : Bool). record old { desk = record old.desk { waiting = record old.desk.waiting { is_open = b } } }) (shut old.desk.waiting.is_open (is_synced session || nat_le old.desk.waiting.until now) closed))
  where
    closed_so : (b : Bool) → b ≡ false → new ≡ old → LetsIf b old new
    closed_so true wrong is = absurd cc
    closed_so false is unchanged = unchanged

-- ---- what stops a program

pub stops_first : (old : Turns) → StopsBelow 0 old old
stops_first old = refl

pub stops_more : (slot : ℕ) (result : Result Report Refusal) (old mid new : Turns) → StopsBelow slot old mid → Obeys (Disable slot) mid result new → StopsBelow (slot + 1) old new
stops_more slot result old mid new below obeys = subst (λ (n : ℕ). StopsBelow n old new) one (stops_suc slot result old mid new below obeys)
  where
    one : suc slot ≡ slot + 1
    one = omega arith

    stops_suc : (slot : ℕ) (result : Result Report Refusal) (old mid new : Turns) → StopsBelow slot old mid → Obeys (Disable slot) mid result new → StopsBelow (suc slot) old new
    stops_suc slot result old mid new below obeys = (mid, below, (result, obeys))

pub stops_all : (count : ℕ) (old new : Turns) → count ≡ 64 → StopsBelow count old new → StopsBelow 64 old new
stops_all count old new all below = subst (λ (n : ℕ). StopsBelow n old new) all below

-- ---- sessions that begin again

pub begins_none : (slot : ℕ) (old : Standing) → may_begin slot old ≡ false → BeginsIf (may_begin slot old) slot old old
begins_none slot old not_yet = by_test (may_begin slot old) not_yet
  where
    by_test : (b : Bool) → b ≡ false → BeginsIf b slot old old
    by_test true wrong = absurd cc
    by_test false is = refl

pub begins_one : (slot : ℕ) (result : Result Report Refusal) (old new : Standing) → may_begin slot old ≡ true → Obeys (Enable slot) old.served result new.served → new.desk ≡ record old.desk { again = set old.desk.again slot false } → BeginsIf (may_begin slot old) slot old new
begins_one slot result old new may obeys same = by_test (may_begin slot old) may
  where
    by_test : (b : Bool) → b ≡ true → BeginsIf b slot old new
    by_test true is = (result, obeys, same)
    by_test false wrong = absurd cc

pub begins_first : (old : Standing) → BeginsBelow 0 old old
begins_first old = refl

pub begins_more : (slot : ℕ) (old mid new : Standing) → BeginsBelow slot old mid → BeginsIf (may_begin slot mid) slot mid new → BeginsBelow (slot + 1) old new
begins_more slot old mid new below begins = subst (λ (n : ℕ). BeginsBelow n old new) one (begins_suc slot old mid new below begins)
  where
    one : suc slot ≡ slot + 1
    one = omega arith

    begins_suc : (slot : ℕ) (old mid new : Standing) → BeginsBelow slot old mid → BeginsIf (may_begin slot mid) slot mid new → BeginsBelow (suc slot) old new
    begins_suc slot old mid new below begins = (mid, below, begins)

pub begins_all : (count : ℕ) (old new : Standing) → count ≡ 64 → BeginsBelow count old new → BeginsBelow 64 old new
begins_all count old new all below = subst (λ (n : ℕ). BeginsBelow n old new) all below
