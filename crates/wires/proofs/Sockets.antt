-- What calls of one socket carry, and that they carry nothing of another.
use Rattle.std.proofs.Common.{◌≡◌, ◌≢◌, ◌==◌, ℕ, Bool, true, false, if◌then◌else◌, List, [], ◌∷◌, ◌++◌, refl, sym, ap, ◌∙◌, append_assoc, append-nil, take}
use Rattle.std.proofs.lemmas.Bool.{ne_eqb}
use Rattle.wires.specs.Calls.{WireCall, Accept, Close, Connect, Look, Read, Try, Write}
use Rattle.wires.specs.Carried.{given, given_by, taken, taken_by}
use Rattle.wires.specs.declared.wire.Received.TheVariants.{Octets as Came, Nothing as NoneCame, End, Fault as ReadFault}
use Rattle.wires.specs.declared.wire.Sent.TheVariants.{Octets as Went, Nothing as NoneWent, Fault as WriteFault}

pub chosen : {X : Type 0} → (test : Bool) (x y : X) → test ≡ true → (if test then x else y) ≡ x
chosen true x y is = refl
chosen false x y is = absurd cc

pub passed_over : {X : Type 0} → (test : Bool) (x y : X) → test ≡ false → (if test then x else y) ≡ y
passed_over false x y is = refl
passed_over true x y is = absurd cc

pub both_none : (one other : List ℕ) → one ≡ [] → other ≡ [] → one ++ other ≡ []
both_none one other first second = ap (λ (l : List ℕ). l ++ other) first ∙ second

-- a call of one socket, or of none
abbrev pub IsOfSocket : ℕ → WireCall → Type 0
IsOfSocket number (Connect to) = Unit {0}
IsOfSocket number (Try other attempt) = Unit {0}
IsOfSocket number (Accept from) = Unit {0}
IsOfSocket number (Read other buf received) = other ≡ number
IsOfSocket number (Write other octets sent) = other ≡ number
IsOfSocket number (Close other why) = Unit {0}
IsOfSocket number (Look other is_ending) = Unit {0}

abbrev pub AreOfSocket : ℕ → List WireCall → Type 0
AreOfSocket number [] = Unit {0}
AreOfSocket number (call ∷ earlier) = IsOfSocket number call × AreOfSocket number earlier

-- calls that carry nothing over a socket
pub record IsIdle (number : ℕ) (calls : List WireCall) : Type 0 where
  pub gives : given number calls ≡ []
  pub takes : taken number calls ≡ []

idle_call : (number other : ℕ) (call : WireCall) → IsOfSocket number call → other ≢ number → IsIdle other (call ∷ [])
idle_call number other (Connect to) is differs = record { gives = refl; takes = refl }
idle_call number other (Try k attempt) is differs = record { gives = refl; takes = refl }
idle_call number other (Accept from) is differs = record { gives = refl; takes = refl }
idle_call number other (Read k buf (Came count)) is differs =
    record { gives = passed_over (k == other) (take count buf) [] (ne_eqb k other (λ same. differs (sym same ∙ is))); takes = refl }
idle_call number other (Read k buf NoneCame) is differs = record { gives = refl; takes = refl }
idle_call number other (Read k buf End) is differs = record { gives = refl; takes = refl }
idle_call number other (Read k buf ReadFault) is differs = record { gives = refl; takes = refl }
idle_call number other (Write k octets (Went count)) is differs =
    record { gives = refl; takes = passed_over (k == other) (take count octets) [] (ne_eqb k other (λ same. differs (sym same ∙ is))) }
idle_call number other (Write k octets NoneWent) is differs = record { gives = refl; takes = refl }
idle_call number other (Write k octets WriteFault) is differs = record { gives = refl; takes = refl }
idle_call number other (Close k why) is differs = record { gives = refl; takes = refl }
idle_call number other (Look k is_ending) is differs = record { gives = refl; takes = refl }

pub idle_socket : (number other : ℕ) (calls : List WireCall) → AreOfSocket number calls → other ≢ number → IsIdle other calls
idle_socket number other [] are differs = record { gives = refl; takes = refl }
idle_socket number other (call ∷ earlier) are differs =
    let before = idle_socket number other earlier are.1 differs in
    let now = idle_call number other call are.0 differs in
    record {
      gives = both_none (given other earlier) (given_by other call) before.gives now.gives;
      takes = both_none (taken other earlier) (taken_by other call) before.takes now.takes;
    }

pub given-on : (number : ℕ) (before after : List WireCall) → given number (after ++ before) ≡ given number before ++ given number after
given-on number before [] = sym (append-nil (given number before))
given-on number before (call ∷ earlier) =
    ap (λ (l : List ℕ). l ++ given_by number call) (given-on number before earlier) ∙ append_assoc (given number before) (given number earlier) (given_by number call)

pub taken-on : (number : ℕ) (before after : List WireCall) → taken number (after ++ before) ≡ taken number before ++ taken number after
taken-on number before [] = sym (append-nil (taken number before))
taken-on number before (call ∷ earlier) =
    ap (λ (l : List ℕ). l ++ taken_by number call) (taken-on number before earlier) ∙ append_assoc (taken number before) (taken number earlier) (taken_by number call)

pub are_socket-on : (number : ℕ) (before after : List WireCall) → AreOfSocket number before → AreOfSocket number after → AreOfSocket number (after ++ before)
are_socket-on number before [] first second = first
are_socket-on number before (call ∷ earlier) first second = (second.0, are_socket-on number before earlier first second.1)

-- no call of one list carries anything over a socket, and none of another
pub idle_on : (number : ℕ) (before after all : List WireCall) → all ≡ after ++ before → IsIdle number before → IsIdle number after → IsIdle number all
idle_on number before after all is first second =
    record {
      gives = ap (given number) is ∙ (given-on number before after ∙ (ap (λ (l : List ℕ). l ++ given number after) first.gives ∙ second.gives));
      takes = ap (taken number) is ∙ (taken-on number before after ∙ (ap (λ (l : List ℕ). l ++ taken number after) first.takes ∙ second.takes));
    }
