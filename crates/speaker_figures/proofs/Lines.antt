-- The lines of a figure, as those of a metric.
use Rattle.std.proofs.Common.{◌≡◌, ◌++◌, ℕ, List, [], ap, append-nil, append_assoc, codes, decimal, ◌∙◌}
use Rattle.prometheus_text.specs.MetricText.{escaped_in_help, escaped_in_value, name_text, word_of}
use Rattle.prometheus_text.specs.declared.metric.MetricKind.{MetricKind}
use Rattle.speaker_figures.specs.declared.figure.Figure.{Figure}
use Rattle.speaker_figures.specs.FiguresText.{figure_text, head_text, help_of, kind_of, name_of, value_text}

abbrev pub help_line : List ℕ → List ℕ → List ℕ
help_line name help = codes "# HELP " ++ name_text name ++ codes " " ++ escaped_in_help help ++ codes "\n"

abbrev pub kind_line : List ℕ → MetricKind → List ℕ
kind_line name kind = codes "# TYPE " ++ name_text name ++ codes " " ++ word_of kind ++ codes "\n"

pub told_head : (figure : Figure) (name help : List ℕ) (kind : MetricKind) → name ≡ name_of figure → help ≡ help_of figure → kind ≡ kind_of figure → help_line name help ++ kind_line name kind ++ [] ≡ head_text figure
unfolding head_text
told_head figure name help kind n h k =
    append-nil (help_line name help ++ kind_line name kind) ∙ ap (λ (x : List ℕ). help_line x help ++ kind_line x kind) n
    ∙ ap (λ (x : List ℕ). help_line (name_of figure) x ++ kind_line (name_of figure) kind) h
    ∙ ap (λ (x : MetricKind). help_line (name_of figure) (help_of figure) ++ kind_line (name_of figure) x) k

-- a sample behind its name and its labels
abbrev pub sample_line : List ℕ → ℕ → List ℕ
sample_line labelled value = labelled ++ codes " " ++ decimal value ++ codes "\n"

pub told_figure : (figure : Figure) (before name : List ℕ) (value : ℕ) → name ≡ name_of figure → (before ++ head_text figure) ++ sample_line (name_text name ++ []) value ≡ before ++ figure_text figure value
unfolding figure_text
told_figure figure before name value n =
    append_assoc before (head_text figure) (sample_line (name_text name ++ []) value) ∙ ap (λ (x : List ℕ). before ++ (head_text figure ++ sample_line x value)) (append-nil (name_text name))
    ∙ ap (λ (x : List ℕ). before ++ (head_text figure ++ sample_line (name_text x) value)) n

-- one label
abbrev pub label_line : List ℕ → List ℕ → List ℕ
label_line label word = codes "{" ++ (name_text label ++ codes "=\"" ++ escaped_in_value word ++ codes "\"")

pub told_value : (figure : Figure) (name label word : List ℕ) (value : ℕ) → name ≡ name_of figure → sample_line (name_text name ++ (label_line label word ++ [] ++ codes "}")) value ≡ value_text figure label word value
unfolding value_text
told_value figure name label word value n =
    ap (λ (x : List ℕ). sample_line (name_text name ++ (x ++ codes "}")) value) (append-nil (label_line label word)) ∙ ap (λ (x : List ℕ). sample_line (name_text x ++ (label_line label word ++ codes "}")) value) n
