-- What a wire is asked, call by call, and what it answers.
use Rattle.std.specs.Prelude.{◌≡◌, ◌⊎◌, ℕ, Bool, List, Option, Some, None, refl}
use Rattle.std.specs.declared.net.socket_addr.SocketAddr.{SocketAddr}
use Rattle.std.specs.declared.net.socket_addr.SocketAddr.TheVariants.{V4, V6}
use mathlib.Core.Logic.{inl, inr}
use Rattle.std.specs.Coded.{Coded, code_by, coded×, coded⊎, coded_list, coded_ℕ}
use base.Stored.{coded_bool, coded_unit}
use Rattle.wires.specs.declared.log.Note.{Note}
use Rattle.wires.specs.declared.log.Note.TheVariants as note
use Rattle.wires.specs.declared.wire.Attempt.{Attempt}
use Rattle.wires.specs.declared.wire.Attempt.TheVariants.{Connected, Pending, Fault as AttemptFault}
use Rattle.wires.specs.declared.wire.Parting.{Parting}
use Rattle.wires.specs.declared.wire.Parting.TheVariants.{NoPlace, NoMemory, Ended, Failed, Closed, Overdue, Unwanted}
use Rattle.wires.specs.declared.wire.Received.{Received}
use Rattle.wires.specs.declared.wire.Received.TheVariants.{Octets as Came, Nothing as NoneCame, End, Fault as ReadFault}
use Rattle.wires.specs.declared.wire.Sent.{Sent}
use Rattle.wires.specs.declared.wire.Sent.TheVariants.{Octets as Went, Nothing as NoneWent, Fault as WriteFault}

-- a call of a wire; of a socket it names the number, which says how many sockets came before it
pub data WireCall : Type 0 where
  Connect : (to : SocketAddr) → WireCall  -- an attempt begins, or a fault
  Try : (number : ℕ) (attempt : Attempt) → WireCall  -- how an attempt stands
  Accept : (from : Option SocketAddr) → WireCall  -- for a connection; where one came, it is from this address
  Read : (number : ℕ) (buf : List ℕ) (received : Received) → WireCall  -- the buffer is as the read left it
  Write : (number : ℕ) (octets : List ℕ) (sent : Sent) → WireCall  -- all that was offered
  Close : (number : ℕ) (parting : Parting) → WireCall  -- why it ends
  Look : (number : ℕ) (is_ending : Bool) → WireCall  -- whether the system has told that it ends

-- what a wire notes of a call
abbrev pub call_of : Note → WireCall
call_of (note.Connect to) = Connect to
call_of (note.Try number attempt) = Try number attempt
call_of (note.Accept from) = Accept from
call_of (note.Read number buf received) = Read number buf.now received
call_of (note.Write number octets sent) = Write number octets.now sent
call_of (note.Close number parting) = Close number parting
call_of (note.Look number is_ending) = Look number is_ending

-- how proofs keep the answers of attempts, of reads and of writes, and why a connection ends
abbrev attempt_sum : Attempt → Unit {0} ⊎ (Unit {0} ⊎ Unit {0})
attempt_sum Connected = inl tt
attempt_sum Pending = inr (inl tt)
attempt_sum AttemptFault = inr (inr tt)

abbrev attempt_of : Unit {0} ⊎ (Unit {0} ⊎ Unit {0}) → Attempt
attempt_of (inl _) = Connected
attempt_of (inr (inl _)) = Pending
attempt_of (inr (inr _)) = AttemptFault

pub attempt_back : (attempt : Attempt) → attempt_of (attempt_sum attempt) ≡ attempt
attempt_back Connected = refl
attempt_back Pending = refl
attempt_back AttemptFault = refl

abbrev received_sum : Received → ℕ ⊎ (Unit {0} ⊎ (Unit {0} ⊎ Unit {0}))
received_sum (Came count) = inl count
received_sum NoneCame = inr (inl tt)
received_sum End = inr (inr (inl tt))
received_sum ReadFault = inr (inr (inr tt))

abbrev received_of : ℕ ⊎ (Unit {0} ⊎ (Unit {0} ⊎ Unit {0})) → Received
received_of (inl count) = Came count
received_of (inr (inl _)) = NoneCame
received_of (inr (inr (inl _))) = End
received_of (inr (inr (inr _))) = ReadFault

pub received_back : (received : Received) → received_of (received_sum received) ≡ received
received_back (Came count) = refl
received_back NoneCame = refl
received_back End = refl
received_back ReadFault = refl

abbrev sent_sum : Sent → ℕ ⊎ (Unit {0} ⊎ Unit {0})
sent_sum (Went count) = inl count
sent_sum NoneWent = inr (inl tt)
sent_sum WriteFault = inr (inr tt)

abbrev sent_of : ℕ ⊎ (Unit {0} ⊎ Unit {0}) → Sent
sent_of (inl count) = Went count
sent_of (inr (inl _)) = NoneWent
sent_of (inr (inr _)) = WriteFault

pub sent_back : (sent : Sent) → sent_of (sent_sum sent) ≡ sent
sent_back (Went count) = refl
sent_back NoneWent = refl
sent_back WriteFault = refl

abbrev PartingSum : Type 0
PartingSum = Unit {0} ⊎ (Unit {0} ⊎ (Unit {0} ⊎ (Unit {0} ⊎ (Unit {0} ⊎ (Unit {0} ⊎ Unit {0})))))

abbrev parting_sum : Parting → PartingSum
parting_sum NoPlace = inl tt
parting_sum NoMemory = inr (inl tt)
parting_sum Ended = inr (inr (inl tt))
parting_sum Failed = inr (inr (inr (inl tt)))
parting_sum Closed = inr (inr (inr (inr (inl tt))))
parting_sum Overdue = inr (inr (inr (inr (inr (inl tt)))))
parting_sum Unwanted = inr (inr (inr (inr (inr (inr tt)))))

abbrev parting_of : PartingSum → Parting
parting_of (inl _) = NoPlace
parting_of (inr (inl _)) = NoMemory
parting_of (inr (inr (inl _))) = Ended
parting_of (inr (inr (inr (inl _)))) = Failed
parting_of (inr (inr (inr (inr (inl _))))) = Closed
parting_of (inr (inr (inr (inr (inr (inl _)))))) = Overdue
parting_of (inr (inr (inr (inr (inr (inr _)))))) = Unwanted

pub parting_back : (parting : Parting) → parting_of (parting_sum parting) ≡ parting
parting_back NoPlace = refl
parting_back NoMemory = refl
parting_back Ended = refl
parting_back Failed = refl
parting_back Closed = refl
parting_back Overdue = refl
parting_back Unwanted = refl

abbrev pub parting_code : Coded Parting
parting_code =
    code_by PartingSum (coded⊎ coded_unit (coded⊎ coded_unit (coded⊎ coded_unit (coded⊎ coded_unit (coded⊎ coded_unit (coded⊎ coded_unit coded_unit)))))) parting_sum parting_of parting_back

abbrev pub attempt_code : Coded Attempt
attempt_code = code_by (Unit {0} ⊎ (Unit {0} ⊎ Unit {0})) (coded⊎ coded_unit (coded⊎ coded_unit coded_unit)) attempt_sum attempt_of attempt_back

abbrev pub received_code : Coded Received
received_code =
    code_by (ℕ ⊎ (Unit {0} ⊎ (Unit {0} ⊎ Unit {0}))) (coded⊎ coded_ℕ (coded⊎ coded_unit (coded⊎ coded_unit coded_unit))) received_sum received_of received_back

abbrev pub sent_code : Coded Sent
sent_code =
    code_by (ℕ ⊎ (Unit {0} ⊎ Unit {0})) (coded⊎ coded_ℕ (coded⊎ coded_unit coded_unit)) sent_sum sent_of sent_back

-- addresses
abbrev AddressSum : Type 0
AddressSum = (List ℕ × ℕ) ⊎ (List ℕ × (ℕ × (ℕ × ℕ)))

abbrev address_sum : SocketAddr → AddressSum
address_sum (V4 a) = inl (a.ip.octets, a.port)
address_sum (V6 a) = inr (a.ip.segments, (a.port, (a.flowinfo, a.scope_id)))

abbrev address_from : AddressSum → SocketAddr
address_from (inl a) = V4 (record { ip = record { octets = a.0 }; port = a.1 })
address_from (inr a) = V6 (record { ip = record { segments = a.0 }; port = a.1.0; flowinfo = a.1.1.0; scope_id = a.1.1.1 })

pub address_back : (address : SocketAddr) → address_from (address_sum address) ≡ address
address_back (V4 a) = refl
address_back (V6 a) = refl

abbrev pub address_code : Coded SocketAddr
address_code = code_by AddressSum (coded⊎ (coded× (coded_list coded_ℕ) coded_ℕ) (coded× (coded_list coded_ℕ) (coded× coded_ℕ (coded× coded_ℕ coded_ℕ)))) address_sum address_from address_back

-- and the calls
abbrev CallSum : Type 0
CallSum = SocketAddr ⊎ ((ℕ × Attempt) ⊎ ((Unit {0} ⊎ SocketAddr) ⊎ ((ℕ × (List ℕ × Received)) ⊎ ((ℕ × (List ℕ × Sent)) ⊎ ((ℕ × Parting) ⊎ (ℕ × Bool))))))

abbrev call_sum : WireCall → CallSum
call_sum (Connect to) = inl to
call_sum (Try number attempt) = inr (inl (number, attempt))
call_sum (Accept None) = inr (inr (inl (inl tt)))
call_sum (Accept (Some from)) = inr (inr (inl (inr from)))
call_sum (Read number buf received) = inr (inr (inr (inl (number, (buf, received)))))
call_sum (Write number octets sent) = inr (inr (inr (inr (inl (number, (octets, sent))))))
call_sum (Close number parting) = inr (inr (inr (inr (inr (inl (number, parting))))))
call_sum (Look number is_ending) = inr (inr (inr (inr (inr (inr (number, is_ending))))))

abbrev call_from : CallSum → WireCall
call_from (inl to) = Connect to
call_from (inr (inl t)) = Try t.0 t.1
call_from (inr (inr (inl (inl _)))) = Accept None
call_from (inr (inr (inl (inr from)))) = Accept (Some from)
call_from (inr (inr (inr (inl r)))) = Read r.0 r.1.0 r.1.1
call_from (inr (inr (inr (inr (inl w))))) = Write w.0 w.1.0 w.1.1
call_from (inr (inr (inr (inr (inr (inl c)))))) = Close c.0 c.1
call_from (inr (inr (inr (inr (inr (inr l)))))) = Look l.0 l.1

pub call_back : (call : WireCall) → call_from (call_sum call) ≡ call
call_back (Connect to) = refl
call_back (Try number attempt) = refl
call_back (Accept None) = refl
call_back (Accept (Some from)) = refl
call_back (Read number buf received) = refl
call_back (Write number octets sent) = refl
call_back (Close number parting) = refl
call_back (Look number is_ending) = refl

abbrev pub call_code : Coded WireCall
call_code =
    code_by CallSum
    (coded⊎ address_code (coded⊎ (coded× coded_ℕ attempt_code) (coded⊎ (coded⊎ coded_unit address_code) (coded⊎ (coded× coded_ℕ (coded× (coded_list coded_ℕ) received_code)) (coded⊎ (coded× coded_ℕ (coded× (coded_list coded_ℕ) sent_code)) (coded⊎ (coded× coded_ℕ parting_code) (coded× coded_ℕ coded_bool)))))))
    call_sum call_from call_back
