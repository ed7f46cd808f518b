-- How the page begins, before the first trace is read: one file, without a script and with nothing from elsewhere. The traces come first in the file, since
-- they are written as they are read, and last on the page.
use Rattle.std.specs.Prelude.{ℕ, List, ◌++◌}
use Rattle.text.specs.Phrases.{bytes}

unfoldable pub document_head : List ℕ
document_head =
    bytes "<!DOCTYPE html>\n"
    ++ bytes "<html xmlns=\"http://www.w3.org/1999/xhtml\" lang=\"en\" xml:lang=\"en\">\n"
    ++ bytes "<head>\n"
    ++ bytes "<meta charset=\"utf-8\"/>\n"
    ++ bytes "<title>Tuning sheet</title>\n"
    ++ bytes "<style>\n"

-- the order of its parts on the page
unfoldable pub style_parts : List ℕ
style_parts =
    bytes "body{font:9pt sans-serif;color:black;background:white;max-width:190mm;margin:0 auto;padding:4mm;display:flex;flex-direction:column}\n"
    ++ bytes "header{order:1}\n"
    ++ bytes "#stack{order:2}\n"
    ++ bytes "#sources{order:3}\n"
    ++ bytes "#meaning{order:4}\n"
    ++ bytes "#traces{order:5}\n"

-- how tables and words look
unfoldable pub style_tables : List ℕ
style_tables =
    bytes "table{border-collapse:collapse;margin:2mm 0;font-size:8pt}\n"
    ++ bytes "th,td{border:1px solid black;padding:0.5mm 1mm;text-align:left;vertical-align:top}\n"
    ++ bytes "#traces td:nth-child(2){overflow-wrap:anywhere}\n"
    ++ bytes "#sources td:nth-child(2){overflow-wrap:anywhere;min-width:20mm}\n"
    ++ bytes "#traces td:last-child{min-width:24mm}\n#traces table{margin-bottom:0}\n"
    ++ bytes "tbody th{white-space:nowrap}\n"
    ++ bytes "h2,dt{break-after:avoid}\n"
    ++ bytes "dt{font-weight:bold}\n"

-- and the paper
unfoldable pub style_paper : List ℕ
style_paper =
    bytes "thead{display:table-header-group}\n"
    ++ bytes "tr{break-inside:avoid}\n"
    ++ bytes "@page{size:A4;margin:10mm}\n"
    ++ bytes "@media print{body{padding:0}}\n"

unfoldable pub traces_head : List ℕ
traces_head =
    bytes "</style>\n</head>\n<body>\n<section id=\"traces\">\n<h2>Traces</h2>\n<table>\n<thead>\n"
    ++ bytes "<tr><th>trace</th><th>name</th><th>steps played</th><th>steps refused</th><th>marks opened</th>"
    ++ bytes "<th>idle ends</th><th>entries left open</th><th>ending</th></tr>\n"
    ++ bytes "</thead>\n<tbody>\n"

unfoldable pub page_head : List ℕ
page_head = document_head ++ style_parts ++ style_tables ++ style_paper ++ traces_head
