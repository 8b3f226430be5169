-- A client of the code as the client's table sees it.
use Rattle.std.specs.Prelude.{◌≡◌, Bool, true, false}
use Rattle.std.specs.Option.{option_map}
use Rattle.rtr_codec.specs.ClientState as table
use Rattle.rtr_codec.specs.PduSpelling.{content_of}
use Rattle.rtr_client.specs.Book.{Book, started_from}
use Rattle.rtr_client.specs.declared.acts.Acts.{Acts}
use Rattle.rtr_client.specs.declared.session.Session.{Session}
use Rattle.rtr_client.specs.declared.session.Stage.{Stage}
use Rattle.rtr_client.specs.declared.session.Stage.TheVariants.{Off, Opening, AskedSerial, AskedReset, Waiting, Loading, Synced}

-- where the session stands; a load stands in its book
abbrev pub stage_of : Stage → Book → table.Stage
stage_of Off book = table.Off
stage_of Opening book = table.Opening
stage_of AskedSerial book = table.Asked_serial
stage_of AskedReset book = table.Asked_reset
stage_of Waiting book = table.Waiting
stage_of Loading book = table.Loading book.serially book.session book.loaded
stage_of Synced book = table.Synced

-- whether a load is in progress
abbrev pub is_loading : Stage → Bool
is_loading Off = false
is_loading Opening = false
is_loading AskedSerial = false
is_loading AskedReset = false
is_loading Waiting = false
is_loading Loading = true
is_loading Synced = false

-- the client of a session and a book
abbrev pub client_of : Session → Book → table.Client
client_of session book = record {
  stage = stage_of session.stage book;
  closing = session.closing;
  base = book.base;
  intervals = session.intervals;
  expire = session.expire;
  refresh = session.refresh;
  query = session.query;
  reopen = session.reopen;
}

-- what a row leaves of the session, with what it does, is this reply
abbrev pub reply_of : Session → Book → Acts → table.Reply
reply_of session book acts = record { client = client_of session book; said = option_map content_of acts.pdu; opened = acts.opened }

-- where no load is in progress, none of its payloads are kept
abbrev pub IsSettled : Session → Book → Type 0
IsSettled session book = is_loading session.stage ≡ false → book.loaded ≡ started_from book
