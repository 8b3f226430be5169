-- How metrics are spelled in Prometheus' text format, version 0.0.4: lines that end in a line feed, of each metric its help, its
-- kind and its samples.
use Rattle.std.specs.Prelude.{◌==◌, ℕ, Bool, true, List, [], ◌∷◌, ◌++◌, codes, decimal, if◌then◌else◌, map}
use Rattle.std.specs.Char.{is_ascii_alphanumeric, is_ascii_digit}
use Rattle.std.specs.List.{flat_map}
use Rattle.prometheus_text.specs.declared.metric.Label.{Label}
use Rattle.prometheus_text.specs.declared.metric.Metric.{Metric}
use Rattle.prometheus_text.specs.declared.metric.MetricKind.{MetricKind}
use Rattle.prometheus_text.specs.declared.metric.MetricKind.TheVariants.{Counter, Gauge}
use Rattle.prometheus_text.specs.declared.metric.Sample.{Sample}

-- the octets of a line feed, a quote, a backslash and an underscore
abbrev pub line_feed : ℕ
line_feed = 10

abbrev pub quote : ℕ
quote = 34

abbrev pub backslash : ℕ
backslash = 92

abbrev pub underscore : ℕ
underscore = 95

-- the word of a kind
abbrev pub word_of : MetricKind → List ℕ
word_of Counter = codes "counter"
word_of Gauge = codes "gauge"

-- names are of letters, digits and underscores, and don't begin with a digit; any other octet is written as an underscore, and
-- one more stands in front where a name would begin with a digit or have no octet
abbrev pub name_octet : ℕ → ℕ
name_octet octet = if is_ascii_alphanumeric octet then octet else underscore

abbrev pub starts_badly : List ℕ → Bool
starts_badly [] = true
starts_badly (octet ∷ rest) = is_ascii_digit octet

abbrev pub name_text : List ℕ → List ℕ
name_text name = (if starts_badly name then codes "_" else []) ++ map name_octet name

-- in a help a line feed and a backslash stand behind a backslash
abbrev pub help_octet : ℕ → List ℕ
help_octet octet = if octet == backslash then codes "\\\\" else if octet == line_feed then codes "\\n" else octet ∷ []

abbrev pub escaped_in_help : List ℕ → List ℕ
escaped_in_help help = flat_map help_octet help

-- in the value of a label a quote too
abbrev pub value_octet : ℕ → List ℕ
value_octet octet = if octet == quote then codes "\\\"" else help_octet octet

abbrev pub escaped_in_value : List ℕ → List ℕ
escaped_in_value value = flat_map value_octet value

-- a label
abbrev pub label_text : Label → List ℕ
label_text label = name_text label.name.now ++ codes "=\"" ++ escaped_in_value label.value.now ++ codes "\""

-- labels behind the first one
abbrev pub more_labels : List Label → List ℕ
more_labels labels = flat_map (λ label. codes "," ++ label_text label) labels

abbrev pub labels_text : List Label → List ℕ
labels_text [] = []
labels_text (label ∷ labels) = codes "{" ++ label_text label ++ more_labels labels ++ codes "}"

-- a sample of the metric of this name
abbrev pub sample_text : List ℕ → Sample → List ℕ
sample_text name sample = name_text name ++ labels_text sample.labels.now ++ codes " " ++ decimal sample.value ++ codes "\n"

abbrev pub samples_text : List ℕ → List Sample → List ℕ
samples_text name samples = flat_map (sample_text name) samples

-- a metric
abbrev pub help_text : Metric → List ℕ
help_text metric = codes "# HELP " ++ name_text metric.name.now ++ codes " " ++ escaped_in_help metric.help.now ++ codes "\n"

abbrev pub kind_text : Metric → List ℕ
kind_text metric = codes "# TYPE " ++ name_text metric.name.now ++ codes " " ++ word_of metric.kind ++ codes "\n"

abbrev pub metric_text : Metric → List ℕ
metric_text metric = help_text metric ++ kind_text metric ++ samples_text metric.name.now metric.samples.now

-- metrics
abbrev pub metrics_text : List Metric → List ℕ
metrics_text metrics = flat_map metric_text metrics
