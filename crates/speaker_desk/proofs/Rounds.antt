-- What ends rounds before their number, and what becomes of a peer that waits.
use Rattle.std.proofs.Common.{◌≡◌, ◌≢◌, ◌≤◌, ◌<◌, ◌+◌, ◌++◌, ◌==◌, ◌∙◌, ◌⊎◌, inl, inr, ℕ, zero, suc, Bool, true, false, not, List, [], ◌∷◌, Option, Some, None, Result, Ok, Err, codes, cond, filter, get_or, length, refl, sym, ap, subst, arith, is_some}
use Rattle.std.specs.Prelude.{Contains}
use Rattle.std.specs.Bool.{MatchBool}
use Rattle.std.proofs.lemmas.Bool.{cases_eq, ne_eqb}
use Rattle.bgp_conf.specs.declared.command.Command.{Command}
use Rattle.bgp_conf.specs.declared.command.Command.TheVariants.{Disable}
use Rattle.bgp_conf.specs.declared.refusal.Refusal.{Refusal}
use Rattle.clocks.specs.Moments.{told_behind}
use Rattle.command_lines.specs.CommandWords.{Says}
use Rattle.command_lines.specs.Words.{words_in}
use Rattle.control_lines.specs.declared.talk.Wish.{Wish}
use Rattle.control_lines.specs.declared.talk.Wish.TheVariants.{Nothing, Answer, More}
use Rattle.speaker.specs.Shown.{cache_state_of}
use Rattle.runs.specs.declared.event.Report.{Report}
use Rattle.speaker_turns.specs.Turns.{Turns}
use Rattle.speaker_desk.specs.Answering.{AnswersText, ClearsSlot, Commands, FollowsAnswer, IsCleared, IsObeyed, IsTextOf, cleared, settled}
use Rattle.speaker_desk.specs.Attended.{AttendsBelow, AttendsTurns, AttendsWish, BeginsBelow, BeginsIf, EnablesAll, EndsRounds, Hall, LetsIf, TakesRound, TakesRounds, may_begin}
use Rattle.speaker_desk.specs.Rounds.{AreToldToStop, BecomesOf, Decides, IsAnswered, IsAnsweredIn, IsEnabledAmong, StopAtAsking}
use Rattle.speaker_desk.specs.Standing.{DeskState, Standing}
use Rattle.speaker_desk.specs.Waiting.{Waiting, decided_by, opens, others}

-- ---- what a text makes of a desk

-- what is settled of a slot leaves the moment to stop
settled_stops : (slot : Option ℕ) (desk : DeskState) → (settled slot desk).stopped ≡ desk.stopped
settled_stops slot desk = refl

follows_stops : (result : Result Report Refusal) (command : Command) (mid : Turns) (old new : Standing) → FollowsAnswer result command mid old new → new.desk.stopped ≡ old.desk.stopped
follows_stops (Ok report) command mid old new follows = ap (λ (d : DeskState). d.stopped) follows.1
follows_stops (Err why) command mid old new same = ap (λ (s : Standing). s.desk.stopped) same

cleared_stops : (result : Result Report Refusal) (slot : ℕ) (desk : DeskState) → (cleared result slot desk).stopped ≡ desk.stopped
cleared_stops (Ok report) slot desk = refl
cleared_stops (Err why) slot desk = refl

commands_stop : (text : List ℕ) (old new : Standing) → Commands text old new → new.desk.stopped ≡ old.desk.stopped
commands_stop text old new (inl same) = ap (λ (s : Standing). s.desk.stopped) same
commands_stop text old new (inr (inl says)) = follows_stops (says.2).result says.0 (says.2).mid old new (says.2).follows
commands_stop text old new (inr (inr clears)) = by_slot clears.2
  where
    by_slot : ClearsSlot clears.0 old new → new.desk.stopped ≡ old.desk.stopped
    by_slot (inl same) = ap (λ (s : Standing). s.desk.stopped) same
    by_slot (inr is) = let c = is.2 in ap (λ (d : DeskState). d.stopped) c.2 ∙ cleared_stops c.0 is.0 old.desk

text_stops : (text : List ℕ) (now : ℕ) (old new : Standing) → AnswersText text now old new → (new.desk.stopped ≡ old.desk.stopped) ⊎ (text ≡ codes "stop")
text_stops text now old new (inl stops) = inr stops.0
text_stops text now old new (inr other) = inl (commands_stop text old new other.1)

-- ---- a peer that waits

contains_more : {X : Type 0} (y : X) (xs : List X) (x : X) → Contains xs x → Contains (y ∷ xs) x
contains_more y xs x at = let within = at.1 in (suc at.0, omega (arith, within), at.2)

contains_less : {X : Type 0} (y : X) (xs : List X) (x : X) → Contains (y ∷ xs) x → (y ≡ x) ⊎ Contains xs x
contains_less y xs x (zero, within, is) = inl is
contains_less y xs x (suc k, within, is) = inr (k, omega (arith, within), is)

none_contained : {X : Type 0} (x : X) → Contains [] x → ⊥
none_contained x at = let within = at.1 in absurd (omega (arith, within))

contains-filter : (test : ℕ → Bool) (xs : List ℕ) (x : ℕ) → Contains xs x → test x ≡ true → Contains (filter test xs) x
contains-filter test [] x at passes = absurd (none_contained x at)
contains-filter test (y ∷ xs) x at passes = by_place (λ there. contains-filter test xs x there passes) (contains_less y xs x at)
  where
    by_test : (b : Bool) → Contains (filter test xs) x → Contains (cond b (y ∷ filter test xs) (filter test xs)) x
    by_test true is = contains_more y (filter test xs) x is
    by_test false is = is

    by_place : (Contains xs x → Contains (filter test xs) x) → (y ≡ x) ⊎ Contains xs x → Contains (cond (test y) (y ∷ filter test xs) (filter test xs)) x
    by_place further (inl here) = subst (λ (b : Bool). Contains (cond b (y ∷ filter test xs) (filter test xs)) x) (sym (ap test here ∙ passes)) (0, omega arith, here)
    by_place further (inr there) = by_test (test y) (further there)

others_contain : (other slot : ℕ) (slots : List ℕ) → slot ≢ other → Contains slots slot → Contains (others other slots) slot
others_contain other slot slots differs at = contains-filter (λ (k : ℕ). not (k == other)) slots slot at (ap not (ne_eqb slot other differs))

-- it still waits where this one doesn't any more, unless it is this one
still_waits : (decided : Option ℕ) (slot : ℕ) (old new : DeskState) → new ≡ settled decided old → Contains old.waiting.slots slot → Contains new.waiting.slots slot ⊎ (decided ≡ Some slot)
still_waits None slot old new same waits = inl (subst (λ (d : DeskState). Contains d.waiting.slots slot) (sym same) waits)
still_waits (Some other) slot old new same waits = by_same (cases_eq slot other)
  where
    by_same : (slot ≡ other) ⊎ (slot ≢ other) → Contains new.waiting.slots slot ⊎ (Some other ≡ Some slot)
    by_same (inl is) = inr (ap (λ (k : ℕ). Some k) (sym is))
    by_same (inr differs) = inl (subst (λ (d : DeskState). Contains d.waiting.slots slot) (sym same) (others_contain other slot old.waiting.slots differs waits))

follows_waits : (result : Result Report Refusal) (command : Command) (slot : ℕ) (mid : Turns) (old new : Standing) → FollowsAnswer result command mid old new → Contains old.desk.waiting.slots slot → Contains new.desk.waiting.slots slot ⊎ (decided_by command ≡ Some slot)
follows_waits (Ok report) command slot mid old new follows waits = still_waits (decided_by command) slot old.desk new.desk follows.1 waits
follows_waits (Err why) command slot mid old new same waits = inl (subst (λ (s : Standing). Contains s.desk.waiting.slots slot) (sym same) waits)

cleared_waits : (result : Result Report Refusal) (other slot : ℕ) (old new : DeskState) → new ≡ cleared result other old → Contains old.waiting.slots slot → Contains new.waiting.slots slot ⊎ (other ≡ slot)
cleared_waits (Err why) other slot old new same waits = inl (subst (λ (d : DeskState). Contains d.waiting.slots slot) (sym same) waits)
cleared_waits (Ok report) other slot old new same waits = by_same (cases_eq slot other)
  where
    by_same : (slot ≡ other) ⊎ (slot ≢ other) → Contains new.waiting.slots slot ⊎ (other ≡ slot)
    by_same (inl is) = inr (sym is)
    by_same (inr differs) = inl (subst (λ (d : DeskState). Contains d.waiting.slots slot) (sym same) (others_contain other slot old.waiting.slots differs waits))

says_decides : (slot : ℕ) (text : List ℕ) (command : Command) (old new : Standing) → Says (words_in text) command → IsObeyed command old new → Contains old.desk.waiting.slots slot → Contains new.desk.waiting.slots slot ⊎ Decides slot text
says_decides slot text command old new says is waits = by_result (follows_waits is.result command slot is.mid old new is.follows waits)
  where
    by_result : Contains new.desk.waiting.slots slot ⊎ (decided_by command ≡ Some slot) → Contains new.desk.waiting.slots slot ⊎ Decides slot text
    by_result (inl on) = inl on
    by_result (inr decides) = inr (inr (inl (command, says, decides)))

clears_decides : (slot : ℕ) (text word : List ℕ) (old new : Standing) → words_in text ≡ codes "clear" ∷ word ∷ [] → ClearsSlot word old new → Contains old.desk.waiting.slots slot → Contains new.desk.waiting.slots slot ⊎ Decides slot text
clears_decides slot text word old new words (inl same) waits = inl (subst (λ (s : Standing). Contains s.desk.waiting.slots slot) (sym same) waits)
clears_decides slot text word old new words (inr clears) waits = by_result (cleared_waits (clears.2).0 clears.0 slot old.desk new.desk (clears.2).2 waits)
  where
    by_result : Contains new.desk.waiting.slots slot ⊎ (clears.0 ≡ slot) → Contains new.desk.waiting.slots slot ⊎ Decides slot text
    by_result (inl on) = inl on
    by_result (inr is) = inr (inr (inr (word, words, subst (λ (k : ℕ). Says (codes "disable" ∷ word ∷ []) (Disable k)) is clears.1)))

text_decides : (slot : ℕ) (text : List ℕ) (now : ℕ) (old new : Standing) → AnswersText text now old new → Contains old.desk.waiting.slots slot → Contains new.desk.waiting.slots slot ⊎ Decides slot text
text_decides slot text now old new (inl stops) waits = inr (inl stops.0)
text_decides slot text now old new (inr (_, inl same)) waits = inl (subst (λ (s : Standing). Contains s.desk.waiting.slots slot) (sym same) waits)
text_decides slot text now old new (inr (_, inr (inl says))) waits = says_decides slot text says.0 old new says.1 says.2 waits
text_decides slot text now old new (inr (_, inr (inr clears))) waits = clears_decides slot text clears.0 old new clears.1 clears.2 waits

-- where each that waits is enabled, it is among them
enabled_among : (slots : List ℕ) (slot : ℕ) (old new : Turns) → Contains slots slot → EnablesAll slots old new → IsEnabledAmong slot slots old new
enabled_among [] slot old new at enables = absurd (none_contained slot at)
enabled_among (other ∷ slots) slot old new at enables = by_place (λ there. enabled_among slots slot enables.1 new there enables.3) (contains_less other slots slot at)
  where
    by_place : (Contains slots slot → IsEnabledAmong slot slots enables.1 new) → (other ≡ slot) ⊎ Contains slots slot → IsEnabledAmong slot (other ∷ slots) old new
    by_place further (inl here) = subst (λ (k : ℕ). IsEnabledAmong k (other ∷ slots) old new) here
        (record { before = []; behind = slots; is = refl; at = old; first = refl; result = enables.0; enabled = enables.1; obeys = enables.2; others = enables.3 })
    by_place further (inr there) =
        let among = further there in
        record {
          before = other ∷ among.before;
          behind = among.behind;
          is = ap (λ (l : List ℕ). other ∷ l) among.is;
          at = among.at;
          first = (enables.0, enables.1, enables.2, among.first);
          result = among.result;
          enabled = among.enabled;
          obeys = among.obeys;
          others = among.others;
        }

-- sessions that begin again leave the gate, and the moment to stop
begin_leaves : (begins : Bool) (slot : ℕ) (old new : Standing) → BeginsIf begins slot old new → (new.desk.waiting ≡ old.desk.waiting) × (new.desk.stopped ≡ old.desk.stopped)
begin_leaves false slot old new same = (ap (λ (s : Standing). s.desk.waiting) same, ap (λ (s : Standing). s.desk.stopped) same)
begin_leaves true slot old new begins = (ap (λ (d : DeskState). d.waiting) begins.2, ap (λ (d : DeskState). d.stopped) begins.2)

begun_leaves : (count : ℕ) (old new : Standing) → BeginsBelow count old new → (new.desk.waiting ≡ old.desk.waiting) × (new.desk.stopped ≡ old.desk.stopped)
begun_leaves zero old new same = (ap (λ (s : Standing). s.desk.waiting) same, ap (λ (s : Standing). s.desk.stopped) same)
begun_leaves (suc slot) old new begins =
    let one = begin_leaves (may_begin slot begins.0) slot begins.0 new begins.2 in
    let so_far = begun_leaves slot old begins.0 begins.1 in
    (one.0 ∙ so_far.0, one.1 ∙ so_far.1)

let_stops : (b : Bool) (old new : Standing) → LetsIf b old new → new.desk.stopped ≡ old.desk.stopped
let_stops false old new same = ap (λ (s : Standing). s.desk.stopped) same
let_stops true old new lets = ap (λ (d : DeskState). d.stopped) lets.1

told_length : (moments before : List ℕ) → length (told_behind moments before) ≡ length moments + length before
told_length [] before = omega arith
told_length (now ∷ moments) before = let more = told_length moments (now ∷ before) in omega (arith, more)

module _ {P : Type 0} (wish : P → ℕ → Wish) (line : P → ℕ → List ℕ) (turns : ℕ → P → P → Type 0) (hears : ℕ → List ℕ → Bool → P → P → Type 0) where
  -- ---- what ends rounds

  wish_stops : (w : Wish) (key now : ℕ) (start old new : Hall P) → key < 16 → AttendsBelow wish line turns hears key now start old → wish old.operators key ≡ w → AttendsWish wish line turns hears w key now old new
      → (new.stand.desk.stopped ≡ old.stand.desk.stopped) ⊎ IsAnswered wish line turns hears now start (codes "stop")
  wish_stops Nothing key now start old new within below is same = inl (ap (λ (h : Hall P). h.stand.desk.stopped) same)
  wish_stops More key now start old new within below is shows = inl (ap (λ (s : Standing). s.desk.stopped) shows.0)
  wish_stops Answer key now start old new within below is answers = by_text (text_stops answers.0.0 now old.stand new.stand answers.0.2)
    where
      by_text : (new.stand.desk.stopped ≡ old.stand.desk.stopped) ⊎ (answers.0.0 ≡ codes "stop") → (new.stand.desk.stopped ≡ old.stand.desk.stopped) ⊎ IsAnswered wish line turns hears now start (codes "stop")
      by_text (inl same) = inl same
      by_text (inr stop) = inr (record { key = key; within = within; mid = old; below = below; waits = is; says = subst (λ (text : List ℕ). IsTextOf (line old.operators key) text) stop answers.0.1 })

  attended_stops : (keys now : ℕ) (old new : Hall P) → keys ≤ 16 → AttendsBelow wish line turns hears keys now old new → (new.stand.desk.stopped ≡ old.stand.desk.stopped) ⊎ IsAnswered wish line turns hears now old (codes "stop")
  attended_stops zero now old new most same = inl (ap (λ (h : Hall P). h.stand.desk.stopped) same)
  attended_stops (suc key) now old new most below = by_first (attended_stops key now old below.0 (omega (arith, most)) below.1)
    where
      by_one : (below.0).stand.desk.stopped ≡ old.stand.desk.stopped → (new.stand.desk.stopped ≡ (below.0).stand.desk.stopped) ⊎ IsAnswered wish line turns hears now old (codes "stop") → (new.stand.desk.stopped ≡ old.stand.desk.stopped) ⊎ IsAnswered wish line turns hears now old (codes "stop")
      by_one same (inl one) = inl (one ∙ same)
      by_one same (inr stop) = inr stop

      by_first : ((below.0).stand.desk.stopped ≡ old.stand.desk.stopped) ⊎ IsAnswered wish line turns hears now old (codes "stop") → (new.stand.desk.stopped ≡ old.stand.desk.stopped) ⊎ IsAnswered wish line turns hears now old (codes "stop")
      by_first (inl same) = by_one same (wish_stops (wish (below.0).operators key) key now old below.0 new (omega (arith, most)) below.1 refl below.2)
      by_first (inr stop) = inr stop

  round_stops : (now : ℕ) (old new : Hall P) (round : TakesRound wish line turns hears now old new) → (new.stand.desk.stopped ≡ old.stand.desk.stopped) ⊎ IsAnsweredIn wish line turns hears now old new round (codes "stop")
  round_stops now old new round = by_attending (attended_stops 16 now (record { stand = round.begun; operators = round.visited }) new (omega arith) round.attends)
    where
      by_attending : (new.stand.desk.stopped ≡ (round.begun).desk.stopped) ⊎ IsAnsweredIn wish line turns hears now old new round (codes "stop") → (new.stand.desk.stopped ≡ old.stand.desk.stopped) ⊎ IsAnsweredIn wish line turns hears now old new round (codes "stop")
      by_attending (inl same) =
          inl (same ∙ ((begun_leaves 64 round.let_through round.begun round.begins).1 ∙ let_stops (opens now (cache_state_of (round.turned).speaker.cache) old.stand.desk.waiting) (record old.stand { served = round.turned }) round.let_through round.lets))
      by_attending (inr stop) = inr stop

  rounds_stop : (moments : List ℕ) (old new : Hall P) (rounds : TakesRounds wish line turns hears moments old new) → (new.stand.desk.stopped ≡ old.stand.desk.stopped) ⊎ AreToldToStop wish line turns hears moments old new rounds
  rounds_stop [] old new same = inl (ap (λ (h : Hall P). h.stand.desk.stopped) same)
  rounds_stop (now ∷ moments) old new rounds = by_first (round_stops now old rounds.0 rounds.1) (rounds_stop moments rounds.0 new rounds.2)
    where
      by_first : ((rounds.0).stand.desk.stopped ≡ old.stand.desk.stopped) ⊎ IsAnsweredIn wish line turns hears now old rounds.0 rounds.1 (codes "stop") → (new.stand.desk.stopped ≡ (rounds.0).stand.desk.stopped) ⊎ AreToldToStop wish line turns hears moments rounds.0 new rounds.2
          → (new.stand.desk.stopped ≡ old.stand.desk.stopped) ⊎ AreToldToStop wish line turns hears (now ∷ moments) old new rounds
      by_first (inr stop) rest = inr (inl stop)
      by_first (inl same) (inl rest) = inl (rest ∙ same)
      by_first (inl same) (inr stop) = inr (inr stop)

  -- fewer turns than were asked for, behind which all is well, were stopped by a line
  pub fewer_were_stopped : {E : Type 0} (count : ℕ) (before behind : List ℕ) (old new : Hall P) → AttendsTurns wish line turns hears {E = E} count (Ok tt) before behind old new → old.stand.desk.stopped ≡ None → length behind < count + length before → StopAtAsking wish line turns hears before behind old
  fewer_were_stopped {E} count before behind old new attends quiet fewer = by_end attends.ends
    where
      by_rounds : (last : ℕ) (since : ℕ) → behind ≡ last ∷ told_behind attends.moments before → (attends.mid).stand.desk.stopped ≡ Some since → ((attends.mid).stand.desk.stopped ≡ old.stand.desk.stopped) ⊎ AreToldToStop wish line turns hears attends.moments old attends.mid attends.rounds → StopAtAsking wish line turns hears before behind old
      by_rounds last since told stopped (inl same) = absurd (let wrong = ap is_some (sym stopped ∙ (same ∙ quiet)) in cc)
      by_rounds last since told stopped (inr stop) = record { moments = attends.moments; last = last; told = told; mid = attends.mid; rounds = attends.rounds; asked = stop }

      by_end : EndsRounds wish line turns hears {E = E} (Ok tt) count attends.moments before behind attends.mid new → StopAtAsking wish line turns hears before behind old
      by_end (inl all) =
          let many = all.0 in
          let long = ap length all.1 ∙ told_length attends.moments before in
          absurd (omega (arith, many, long, fewer))
      by_end (inr stops) =
          let is = stops.3 in
          by_rounds stops.0 (is.stopped).0 stops.2 (sym (ap (λ (d : DeskState). d.stopped) is.same) ∙ (is.stopped).1) (rounds_stop attends.moments old attends.mid attends.rounds)

  -- ---- what becomes of a peer that waits

  wish_decides : (slot : ℕ) (w : Wish) (key now : ℕ) (start old new : Hall P) → key < 16 → AttendsBelow wish line turns hears key now start old → wish old.operators key ≡ w → AttendsWish wish line turns hears w key now old new → Contains old.stand.desk.waiting.slots slot
      → Contains new.stand.desk.waiting.slots slot ⊎ ((text : List ℕ) × IsAnswered wish line turns hears now start text × Decides slot text)
  wish_decides slot Nothing key now start old new within below is same waits = inl (subst (λ (h : Hall P). Contains h.stand.desk.waiting.slots slot) (sym same) waits)
  wish_decides slot More key now start old new within below is shows waits = inl (subst (λ (s : Standing). Contains s.desk.waiting.slots slot) (sym shows.0) waits)
  wish_decides slot Answer key now start old new within below is answers waits = by_text (text_decides slot answers.0.0 now old.stand new.stand answers.0.2 waits)
    where
      by_text : Contains new.stand.desk.waiting.slots slot ⊎ Decides slot answers.0.0 → Contains new.stand.desk.waiting.slots slot ⊎ ((text : List ℕ) × IsAnswered wish line turns hears now start text × Decides slot text)
      by_text (inl on) = inl on
      by_text (inr decides) = inr (answers.0.0, record { key = key; within = within; mid = old; below = below; waits = is; says = answers.0.1 }, decides)

  attended_decides : (slot keys now : ℕ) (old new : Hall P) → keys ≤ 16 → AttendsBelow wish line turns hears keys now old new → Contains old.stand.desk.waiting.slots slot
      → Contains new.stand.desk.waiting.slots slot ⊎ ((text : List ℕ) × IsAnswered wish line turns hears now old text × Decides slot text)
  attended_decides slot zero now old new most same waits = inl (subst (λ (h : Hall P). Contains h.stand.desk.waiting.slots slot) (sym same) waits)
  attended_decides slot (suc key) now old new most below waits = by_first (attended_decides slot key now old below.0 (omega (arith, most)) below.1 waits)
    where
      by_first : Contains (below.0).stand.desk.waiting.slots slot ⊎ ((text : List ℕ) × IsAnswered wish line turns hears now old text × Decides slot text) → Contains new.stand.desk.waiting.slots slot ⊎ ((text : List ℕ) × IsAnswered wish line turns hears now old text × Decides slot text)
      by_first (inl on) = wish_decides slot (wish (below.0).operators key) key now old below.0 new (omega (arith, most)) below.1 refl below.2 on
      by_first (inr decides) = inr decides

  pub becomes_of : (slot : ℕ) (moments : List ℕ) (old new : Hall P) (rounds : TakesRounds wish line turns hears moments old new) → Contains old.stand.desk.waiting.slots slot → BecomesOf wish line turns hears slot moments old new rounds
  becomes_of slot [] old new same waits = subst (λ (h : Hall P). Contains h.stand.desk.waiting.slots slot) (sym same) waits
  becomes_of slot (now ∷ moments) old new rounds waits = by_gate (becomes_of slot moments rounds.0 new rounds.2) (opens now (cache_state_of ((rounds.1).turned).speaker.cache) old.stand.desk.waiting) (rounds.1).lets
    where
      by_attending : (Contains (rounds.0).stand.desk.waiting.slots slot → BecomesOf wish line turns hears slot moments rounds.0 new rounds.2) → Contains (rounds.0).stand.desk.waiting.slots slot ⊎ ((text : List ℕ) × IsAnsweredIn wish line turns hears now old rounds.0 rounds.1 text × Decides slot text)
          → ((text : List ℕ) × IsAnsweredIn wish line turns hears now old rounds.0 rounds.1 text × Decides slot text) ⊎ BecomesOf wish line turns hears slot moments rounds.0 new rounds.2
      by_attending further (inl on) = inr (further on)
      by_attending further (inr decides) = inl decides

      by_gate : (Contains (rounds.0).stand.desk.waiting.slots slot → BecomesOf wish line turns hears slot moments rounds.0 new rounds.2) → (b : Bool) → LetsIf b (record old.stand { served = (rounds.1).turned }) (rounds.1).let_through
          → MatchBool b (IsEnabledAmong slot old.stand.desk.waiting.slots (rounds.1).turned ((rounds.1).let_through).served × (((rounds.1).let_through).desk.waiting.slots ≡ []))
          (((rounds.1).let_through ≡ record old.stand { served = (rounds.1).turned })
          × (((text : List ℕ) × IsAnsweredIn wish line turns hears now old rounds.0 rounds.1 text × Decides slot text) ⊎ BecomesOf wish line turns hears slot moments rounds.0 new rounds.2))
      by_gate further true lets = (enabled_among old.stand.desk.waiting.slots slot (rounds.1).turned ((rounds.1).let_through).served waits lets.0, ap (λ (d : DeskState). d.waiting.slots) lets.1)
      by_gate further false same =
          let through : Contains ((rounds.1).let_through).desk.waiting.slots slot = subst (λ (s : Standing). Contains s.desk.waiting.slots slot) (sym same) waits in
          let begun : Contains ((rounds.1).begun).desk.waiting.slots slot =
          subst (λ (w : Waiting). Contains w.slots slot) (sym (begun_leaves 64 (rounds.1).let_through (rounds.1).begun (rounds.1).begins).0) through in
          (same, by_attending further (attended_decides slot 16 now (record { stand = (rounds.1).begun; operators = (rounds.1).visited }) rounds.0 (omega arith) (rounds.1).attends begun))
