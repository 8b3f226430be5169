-- What is answered to a request (RFC 9110, RFC 9112): one response, behind which the connection ends.
use Rattle.std.specs.Prelude.{ℕ, List, [], ◌++◌, codes, decimal, length}
use Rattle.prometheus_text.specs.declared.request.Asked.{Asked}
use Rattle.prometheus_text.specs.declared.request.Asked.TheVariants.{More, Metrics, OtherTarget, OtherMethod, NoRequest, TooMuch}

-- the status of a response
abbrev pub status_of : Asked → List ℕ
status_of More = codes "408 Request Timeout"
status_of Metrics = codes "200 OK"
status_of OtherTarget = codes "404 Not Found"
status_of OtherMethod = codes "405 Method Not Allowed"
status_of NoRequest = codes "400 Bad Request"
status_of TooMuch = codes "431 Request Header Fields Too Large"

-- the fields that its status asks for
abbrev pub field_of : Asked → List ℕ
field_of OtherMethod = codes "Allow: GET\r\n"
field_of Metrics = codes "Content-Type: text/plain; version=0.0.4; charset=utf-8\r\n"
field_of other = []

-- its body: the figures are told only to those who ask for them
abbrev pub body_of : Asked → List ℕ → List ℕ
body_of Metrics figures = figures
body_of other figures = []

-- it whole
abbrev pub answer_of : Asked → List ℕ → List ℕ
answer_of asked figures =
    codes "HTTP/1.1 " ++ status_of asked ++ codes "\r\n" ++ field_of asked ++ codes "Content-Length: " ++ decimal (length (body_of asked figures)) ++ codes "\r\nConnection: close\r\n\r\n"
    ++ body_of asked figures
